-- The operations on constraints: create_constraint and drop_constraint.
--
-- That `up` and `down` move the values of a constraint's columns is pgroll's documentation. The rest is our own.
use Rattle.std.specs.Prelude.{ℕ, Bool, true, false, not, ◌||◌, List, [], ◌∷◌, ◌++◌, filter, find, is_some, map, slice_get, Option, Some, None, Result, if◌then◌else◌}
use Rattle.std.specs.List.{filter_map, list_any}
use Rattle.std.specs.Option.{ok_or, option_and_then, option_map, option_map_or, option_or}
use Rattle.std.specs.Str.{bytes_eq}
use Rattle.sql_base.specs.declared.exprs.Expr.{Expr}
use Rattle.sql_base.specs.declared.shapes.Column.{Column}
use Rattle.sql_base.specs.declared.shapes.Schema.{Schema}
use Rattle.sql_base.specs.declared.shapes.Unique.{Unique}
use Rattle.sql_base.specs.Outcome.{and_then}
use Rattle.sql_base.specs.Tree.{names_column}
use Rattle.mig_plan.specs.declared.drafts.DraftColumn.{DraftColumn}
use Rattle.mig_plan.specs.declared.drafts.DraftTable.{DraftTable}
use Rattle.mig_lens.specs.declared.faults.Member.{Member}
use Rattle.mig_lens.specs.declared.faults.Member.TheVariants as member
use Rattle.mig_lens.specs.declared.faults.PlanFault.{PlanFault}
use Rattle.mig_lens.specs.declared.faults.PlanFault.TheVariants.{NoSuchColumn, Exists, KeyColumn, BadExpr}
use Rattle.mig_lens.specs.declared.migrations.Ways.{Ways}
use Rattle.mig_lens.specs.declared.migrations.Ways.TheVariants.{One, Each}
use Rattle.mig_plan.specs.Columns.{key_fault, place_named, twice_fault}
use Rattle.mig_plan.specs.Draft.{column_meant, has_either_constraint, is_check_named, is_unique_named, linked}
use Rattle.mig_plan.specs.Versions.{first, key_name, when, without_fault}

-- ---- up and down of several columns

-- an expression for each of these columns
abbrev pub Pairs : Type 0
Pairs = List (List ℕ × Expr)

abbrev pub expr_for : Pairs → List ℕ → Option Expr
expr_for pairs name = option_map (λ pair. pair.1) (find (λ pair. bytes_eq pair.0 name) pairs)

-- The first of these faults of the pairs' columns, in order.
abbrev pub first_of : (List ℕ → Option PlanFault) → Pairs → Option PlanFault
first_of fault pairs = first (map (λ pair. fault pair.0) pairs)

abbrev pub is_among : List (List ℕ) → List ℕ → Bool
is_among columns name = list_any (λ column. bytes_eq column name) columns

-- P8 for a key that isn't one of these columns.
abbrev pub stray_fault : List ℕ → List (List ℕ) → List ℕ → Option PlanFault
stray_fault title columns name = when (not (is_among columns name)) (NoSuchColumn title name)

abbrev pub twice_named : List ℕ → DraftTable → List ℕ → Option PlanFault
twice_named title table name = option_and_then (twice_fault title name) (column_meant table name)

-- P10 of all columns with `up` or `down`, and then P11 of all.
abbrev pub way_faults : List ℕ → DraftTable → Pairs → Pairs → List (Option PlanFault)
way_faults title table ups downs =
    first_of (key_fault title table) ups
    ∷ first_of (key_fault title table) downs
    ∷ first_of (twice_named title table) ups
    ∷ first_of (twice_named title table) downs
    ∷ []

-- The column, made on both sides where either `up` or `down` is given for it.
abbrev pub made_by : Option Expr → Option Expr → ℕ → Column → DraftColumn → DraftColumn
made_by up down at now column =
    if is_some up || is_some down then record column { after = linked column.before now up down at } else column

abbrev pub with_ways : Pairs → Pairs → ℕ → DraftColumn → DraftColumn
with_ways ups downs at column =
    option_map_or (λ now. made_by (expr_for ups now.name) (expr_for downs now.name) at now column) column.after.column column

-- ---- create_constraint

-- P8 for the first of these columns that isn't in the table.
abbrev pub absent_fault : List ℕ → DraftTable → List ℕ → Option PlanFault
absent_fault title table name = when (not (is_some (column_meant table name))) (NoSuchColumn title name)

-- What is wrong with a new constraint: P8, P9, P10, P11.
abbrev pub create_faults : Schema → List ℕ → DraftTable → List ℕ → List (List ℕ) → Pairs → Pairs → List (Option PlanFault)
create_faults old title table name columns ups downs =
    first (map (absent_fault title table) columns)
    ∷ first_of (stray_fault title columns) ups
    ∷ first_of (stray_fault title columns) downs
    ∷ when (has_either_constraint old title name table) (Exists name)
    ∷ way_faults title table ups downs

-- A check where there is an expression, and else a unique constraint of these columns.
abbrev pub with_constraint : ℕ → List ℕ → List (List ℕ) → Option Expr → DraftTable → DraftTable
with_constraint at name columns (Some expr) table =
    record table { checks = table.checks ++ record { check = record { name = name; expr = expr }; made = Some at } ∷ [] }
with_constraint at name columns None table =
    record table { uniques = table.uniques ++ record { name = name; columns = map (place_named table.columns) columns } ∷ [] }

abbrev pub with_made : Pairs → Pairs → ℕ → DraftTable → DraftTable
with_made ups downs at table = record table { columns = map (with_ways ups downs at) table.columns }

abbrev pub constraint_created : Schema → ℕ → List ℕ → List ℕ → List (List ℕ) → Option Expr → Pairs → Pairs → DraftTable → Result DraftTable PlanFault
constraint_created old at title name columns check ups downs table =
    without_fault (first (create_faults old title table name columns ups downs)) (with_made ups downs at (with_constraint at name columns check table))

-- ---- drop_constraint

abbrev pub name_at : List DraftColumn → ℕ → Option (List ℕ)
name_at columns at = option_map (λ c. c.name) (option_and_then (λ column. column.after.column) (slice_get columns at))

-- the columns of the table that the expression names, in order
abbrev pub names_in : Expr → List DraftColumn → List (List ℕ)
names_in expr columns =
    filter (λ name. names_column name expr) (filter_map (λ column. option_map (λ c. c.name) column.after.column) columns)

abbrev pub check_columns : DraftTable → List ℕ → Option (List (List ℕ))
check_columns table name = option_map (λ check. names_in check.check.expr table.columns) (find (is_check_named name) table.checks)

-- the columns of a unique constraint
abbrev pub names_over : List DraftColumn → Unique → List (List ℕ)
names_over columns unique = filter_map (name_at columns) unique.columns

abbrev pub unique_columns : DraftTable → List ℕ → Option (List (List ℕ))
unique_columns table name = option_map (names_over table.columns) (find (is_unique_named name) table.uniques)

abbrev pub key_columns : DraftTable → List (List ℕ)
key_columns table = filter_map (name_at table.columns) (table.key ∷ [])

-- The columns of the constraint of this name: the key's, those that a check's expression names, or those of a unique
-- constraint. None where the table has no such constraint.
abbrev pub constraint_columns : List ℕ → DraftTable → List ℕ → Option (List (List ℕ))
constraint_columns title table name =
    if bytes_eq (key_name title) name then Some (key_columns table) else option_or (check_columns table name) (unique_columns table name)

-- One expression is meant for the constraint's one column.
abbrev pub pairs_for : List (List ℕ) → Option Ways → Pairs
pairs_for columns None = []
pairs_for columns (Some (Each pairs)) = pairs
pairs_for (column ∷ []) (Some (One expr)) = (column, expr) ∷ []
pairs_for _ (Some (One expr)) = []

-- P14: one expression, and the constraint hasn't exactly one column.
abbrev pub is_loose : List (List ℕ) → Option Ways → Bool
is_loose columns None = false
is_loose columns (Some (Each pairs)) = false
is_loose (column ∷ []) (Some (One expr)) = false
is_loose _ (Some (One expr)) = true

abbrev pub loose_fault : ℕ → Member → List (List ℕ) → Option Ways → Option PlanFault
loose_fault at which columns ways = when (is_loose columns ways) (BadExpr (record { operation = at; member = which }))

abbrev pub loose_faults : ℕ → List (List ℕ) → Option Ways → Option Ways → Option PlanFault
loose_faults at columns up down =
    option_or (loose_fault at member.Up columns up) (loose_fault at member.Down columns down)

-- What is wrong with dropping the constraint of these columns, but for P14: P8 of a key, P10, P11.
abbrev pub drop_faults : List ℕ → DraftTable → List ℕ → List (List ℕ) → Pairs → Pairs → List (Option PlanFault)
drop_faults title table name columns ups downs =
    first_of (stray_fault title columns) ups
    ∷ first_of (stray_fault title columns) downs
    ∷ when (bytes_eq (key_name title) name) (KeyColumn title)
    ∷ way_faults title table ups downs

abbrev pub without_constraint : List ℕ → DraftTable → DraftTable
without_constraint name table =
    record table { checks = filter (λ check. not (is_check_named name check)) table.checks; uniques = filter (λ unique. not (is_unique_named name unique)) table.uniques }

-- What is wrong with dropping the constraint of these columns, P14 last; else the table is without it.
abbrev pub dropped : ℕ → List ℕ → List ℕ → Option Ways → Option Ways → DraftTable → List (List ℕ) → Result DraftTable PlanFault
dropped at title name up down table columns =
    without_fault
    (option_or (first (drop_faults title table name columns (pairs_for columns up) (pairs_for columns down))) (loose_faults at columns up down))
    (with_made (pairs_for columns up) (pairs_for columns down) at (without_constraint name table))

-- P8 where the table has no such constraint, and then what is wrong with dropping it.
abbrev pub constraint_dropped : ℕ → List ℕ → List ℕ → Option Ways → Option Ways → DraftTable → Result DraftTable PlanFault
constraint_dropped at title name up down table =
    and_then (ok_or (constraint_columns title table name) (NoSuchColumn title name)) (dropped at title name up down table)
