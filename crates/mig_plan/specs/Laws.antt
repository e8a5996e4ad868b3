-- What holds of plans, whatever the schemas and migrations are.
use Rattle.std.specs.Prelude.{◌≡◌, ◌≢◌, ◌≤◌, ℕ, ◌+◌, Bool, true, false, ◌||◌, List, length, map, is_some, Some, Ok, Err}
use Rattle.std.specs.List.{list_all, range_with_len}
use Rattle.sql_base.specs.declared.shapes.Schema.{Schema}
use Rattle.mig_lens.specs.declared.columns.Lens.{Lens}
use Rattle.mig_lens.specs.declared.faults.PlanFault.TheVariants.{NoMemory}
use Rattle.mig_lens.specs.declared.migrations.Migration.{Migration}
use Rattle.mig_lens.specs.declared.migrations.Op.{Op}
use Rattle.mig_lens.specs.declared.migrations.Op.TheVariants as op
use Rattle.mig_lens.specs.declared.plans.Fate.{Fate}
use Rattle.mig_lens.specs.declared.plans.Plan.{Plan}
use Rattle.mig_lens.specs.Laws.{FateStands, IsBelow, IsSchema, Joins, numbers_differ}
use Rattle.mig_lens.specs.Lens.{all_carry}
use Rattle.mig_lens.specs.Plan.{created_in, fate_numbered, lens_in, lens_of, table_numbered}
use Rattle.mig_plan.specs.Plan.{plan_of}

-- Each table that a plan keeps is joined by its lens.
abbrev pub PlannedLensesJoin : Type 0
PlannedLensesJoin =
    (old : Schema) (next_table : ℕ) (m : Migration) (plan : Plan) → IsSchema old → IsBelow next_table old → plan_of old next_table m ≡ Ok plan →
    (number : ℕ) (lens : Lens) → lens_of plan number ≡ Some lens → Joins lens number old plan.schema

-- Each fate of a plan is about the tables of its number.
abbrev pub PlannedFatesStand : Type 0
PlannedFatesStand =
    (old : Schema) (next_table : ℕ) (m : Migration) (plan : Plan) → IsSchema old → IsBelow next_table old → plan_of old next_table m ≡ Ok plan →
    (number owner : ℕ) (fate : Fate) → fate_numbered plan number ≡ Some (owner, fate) → FateStands number old plan.schema fate

-- Each table of either version has a fate.
abbrev pub TablesHaveFates : Type 0
TablesHaveFates =
    (old : Schema) (next_table : ℕ) (m : Migration) (plan : Plan) → IsSchema old → IsBelow next_table old → plan_of old next_table m ≡ Ok plan →
    (number : ℕ) → (is_some (table_numbered old number) || is_some (table_numbered plan.schema number)) ≡ true → is_some (fate_numbered plan number) ≡ true

-- No two fates are about one table.
abbrev pub PlannedFatesDiffer : Type 0
PlannedFatesDiffer =
    (old : Schema) (next_table : ℕ) (m : Migration) (plan : Plan) →
    IsSchema old → IsBelow next_table old → plan_of old next_table m ≡ Ok plan →
    numbers_differ (map (λ fate. fate.0) plan.fates) ≡ true

-- The created tables have the numbers from that of the next table on, one after the other.
abbrev pub CreatedTablesAreNumbered : Type 0
CreatedTablesAreNumbered =
    (old : Schema) (next_table : ℕ) (m : Migration) (plan : Plan) →
    IsSchema old → IsBelow next_table old → plan_of old next_table m ≡ Ok plan →
    created_in plan.fates ≡ range_with_len next_table (length (created_in plan.fates))

-- The number of the next table after these is above those of the new version.
abbrev pub PlansStayBelow : Type 0
PlansStayBelow =
    (old : Schema) (next_table : ℕ) (m : Migration) (plan : Plan) →
    IsSchema old → IsBelow next_table old → plan_of old next_table m ≡ Ok plan →
    IsBelow (next_table + length (created_in plan.fates)) plan.schema

-- Where the number of the next table has 32 bits, so has that of the next one after these. It holds for any schema.
abbrev pub PlannedNumbersFit : Type 0
PlannedNumbersFit =
    (old : Schema) (next_table : ℕ) (m : Migration) (plan : Plan) →
    next_table ≤ 4294967295 → plan_of old next_table m ≡ Ok plan →
    next_table + length (created_in plan.fates) ≤ 4294967295

abbrev pub adds_column : Op → Bool
adds_column (op.CreateTable name columns) = false
adds_column (op.DropTable name) = false
adds_column (op.RenameTable from to) = false
adds_column (op.AddColumn name column up) = true
adds_column (op.DropColumn table column down) = false
adds_column (op.RenameColumn table from to) = false
adds_column (op.AlterColumn table column ty nullable default unique check up down) = false
adds_column (op.CreateConstraint table name columns check up down) = false
adds_column (op.DropConstraint table name up down) = false

-- Where each operation is add_column, every old column is carried.
abbrev pub AddedColumnsLoseNothing : Type 0
AddedColumnsLoseNothing =
    (old : Schema) (next_table : ℕ) (m : Migration) (plan : Plan) → IsSchema old → IsBelow next_table old → list_all adds_column m.operations ≡ true → plan_of old next_table m ≡ Ok plan →
    (number : ℕ) (lens : Lens) → lens_of plan number ≡ Some lens → all_carry lens.old_cols ≡ true

-- The new version is a schema as the old one is.
abbrev pub PlansKeepSchemas : Type 0
PlansKeepSchemas = (old : Schema) (next_table : ℕ) (m : Migration) (plan : Plan) → IsSchema old → IsBelow next_table old → plan_of old next_table m ≡ Ok plan → IsSchema plan.schema

-- Planning isn't refused for want of memory by its definition.
abbrev pub PlanningWantsNothing : Type 0
PlanningWantsNothing = (old : Schema) (next_table : ℕ) (m : Migration) → plan_of old next_table m ≢ Err NoMemory
