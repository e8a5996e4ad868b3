-- What a migration makes of a schema, or why it has no plan.
--
-- A migration's operations, done in order, make a new version of the schema, while the old version stands on; `up` gives
-- a new column its value from the old version's row: pgroll's documentation. The rest is our own.
use Rattle.std.specs.Prelude.{ℕ, ◌+◌, true, nat_le, List, [], ◌∷◌, codes, length, map, Some, None, Result, Ok, Err, if◌then◌else◌}
use Rattle.std.specs.Option.{ok_or, option_map}
use Rattle.sql_base.specs.declared.shapes.Check.{Check}
use Rattle.sql_base.specs.declared.shapes.Column.{Column}
use Rattle.sql_base.specs.declared.shapes.Schema.{Schema}
use Rattle.sql_base.specs.Outcome.{and_then, every}
use Rattle.sql_eval.specs.Shape.{max_columns}
use Rattle.mig_plan.specs.declared.drafts.Draft.{Draft}
use Rattle.mig_plan.specs.declared.drafts.DraftCheck.{DraftCheck}
use Rattle.mig_plan.specs.declared.drafts.DraftColumn.{DraftColumn}
use Rattle.mig_plan.specs.declared.drafts.DraftTable.{DraftTable}
use Rattle.mig_lens.specs.declared.faults.PlanFault.{PlanFault}
use Rattle.mig_lens.specs.declared.faults.PlanFault.TheVariants.{NoSuchTable, BadExpr, Limit}
use Rattle.mig_lens.specs.declared.migrations.Migration.{Migration}
use Rattle.mig_lens.specs.declared.migrations.Op.{Op}
use Rattle.mig_lens.specs.declared.migrations.Op.TheVariants as op
use Rattle.mig_lens.specs.declared.plans.Plan.{Plan}
use Rattle.mig_plan.specs.Columns.{column_added, column_altered, column_dropped, column_renamed}
use Rattle.mig_plan.specs.Constraints.{constraint_created, constraint_dropped}
use Rattle.mig_plan.specs.Draft.{table_meant, with_table}
use Rattle.mig_plan.specs.Finish.{finished}
use Rattle.mig_plan.specs.Places.{first_bad}
use Rattle.mig_plan.specs.Tables.{table_created, table_dropped, table_renamed}
use Rattle.mig_plan.specs.Versions.{Table, without_fault}

-- ---- operations in order

-- The name by which an operation means a table. Of create_table it is that of the new one.
abbrev pub title_of : Op → List ℕ
title_of (op.CreateTable title columns) = title
title_of (op.DropTable title) = title
title_of (op.RenameTable from to) = from
title_of (op.AddColumn title column up) = title
title_of (op.DropColumn title name down) = title
title_of (op.RenameColumn title from to) = title
title_of (op.AlterColumn title name ty nullable default unique check up down) = title
title_of (op.CreateConstraint title name columns check up down) = title
title_of (op.DropConstraint title name up down) = title

-- The table that the operation at this place means, after it. (create_table means none.)
abbrev pub changed : Schema → ℕ → Op → Draft → DraftTable → Result DraftTable PlanFault
changed old at (op.CreateTable title columns) draft table = Ok table
changed old at (op.DropTable title) draft table = Ok (table_dropped table)
changed old at (op.RenameTable from to) draft table = table_renamed old draft to table
changed old at (op.AddColumn title column up) draft table = column_added old at title column up table
changed old at (op.DropColumn title name down) draft table = column_dropped at title name down table
changed old at (op.RenameColumn title from to) draft table = column_renamed at title from to table
changed old at (op.AlterColumn title name ty nullable default unique check up down) draft table =
    column_altered old at title name ty nullable default unique check up down table
changed old at (op.CreateConstraint title name columns check up down) draft table =
    constraint_created old at title name columns check up down table
changed old at (op.DropConstraint title name up down) draft table = constraint_dropped at title name up down table

-- P7; else what the operation makes of the table that it means.
abbrev pub on_table : Schema → ℕ → Op → Draft → Result Draft PlanFault
on_table old at op draft =
    and_then (ok_or (table_meant draft (title_of op)) (NoSuchTable (title_of op)))
    (λ table. and_then (changed old at op draft table) (λ changed. Ok (with_table changed draft)))

-- The operation at this place, done on the draft so far.
abbrev pub done : Schema → ℕ → Op → Draft → Result Draft PlanFault
done old at (op.CreateTable title columns) draft = table_created old at title columns draft
done old at (op.DropTable title) draft = on_table old at (op.DropTable title) draft
done old at (op.RenameTable from to) draft = on_table old at (op.RenameTable from to) draft
done old at (op.AddColumn title column up) draft = on_table old at (op.AddColumn title column up) draft
done old at (op.DropColumn title name down) draft = on_table old at (op.DropColumn title name down) draft
done old at (op.RenameColumn title from to) draft = on_table old at (op.RenameColumn title from to) draft
done old at (op.AlterColumn title name ty nullable default unique check up down) draft =
    on_table old at (op.AlterColumn title name ty nullable default unique check up down) draft
done old at (op.CreateConstraint title name columns check up down) draft =
    on_table old at (op.CreateConstraint title name columns check up down) draft
done old at (op.DropConstraint title name up down) draft = on_table old at (op.DropConstraint title name up down) draft

-- These operations one after the other, the first of which has this place.
abbrev pub all_done : Schema → ℕ → List Op → Draft → Result Draft PlanFault
all_done old at [] draft = Ok draft
all_done old at (op ∷ ops) draft = and_then (done old at op draft) (all_done old (at + 1) ops)

-- ---- the whole plan

-- A column as it stands in both versions, carried.
abbrev pub carried : Column → DraftColumn
carried column =
    record { before = Some column; after = record { column = Some column; up = None; down = None; subject = None } }

abbrev pub standing_check : Check → DraftCheck
standing_check check = record { check = check; made = None }

-- A table of the old version is kept, and every column carried.
abbrev pub kept : Table → DraftTable
kept table =
    record { number = table.1; stood = true; name = Some table.0; columns = map carried table.2.columns; key = table.2.key; checks = map standing_check table.2.checks; uniques = table.2.uniques }

-- The same, and P20 where it has too many columns.
abbrev pub first_table : Table → Result DraftTable PlanFault
first_table table =
    if nat_le (length table.2.columns) max_columns then Ok (kept table) else Err (Limit (codes "columns"))

-- The new version begins as the old one.
abbrev pub begun : Schema → ℕ → Result Draft PlanFault
begun old next_table =
    and_then (every (map first_table old.tables)) (λ tables. Ok (record { tables = tables; next_table = next_table }))

-- P14: the first expression that doesn't type; else what the draft comes to.
abbrev pub typed : Schema → Draft → Result Plan PlanFault
typed old draft = without_fault (option_map BadExpr (first_bad old draft.tables)) (finished draft)

-- What the migration makes of the schema, or its first fault: those of the operations in order, and after them P14.
abbrev pub plan_of : Schema → ℕ → Migration → Result Plan PlanFault
plan_of old next_table m =
    and_then (begun old next_table) (λ draft. and_then (all_done old 0 m.operations draft) (typed old))
