-- How faults are looked for, and the names of a table's constraints.
use Rattle.std.specs.Prelude.{ℕ, Bool, ◌||◌, List, [], ◌∷◌, ◌++◌, codes, Option, Some, None, Result, Ok, Err, if◌then◌else◌}
use Rattle.std.specs.List.{list_any}
use Rattle.std.specs.Option.{option_or}
use Rattle.std.specs.Str.{bytes_eq}
use Rattle.sql_base.specs.declared.shapes.Shape.{Shape}
use Rattle.mig_lens.specs.declared.faults.PlanFault.{PlanFault}
pub use Rattle.mig_lens.specs.Versions.{Table, key_name, shape_numbered, table_numbered}

-- ---- faults

-- this fault, where the test holds
abbrev pub when : Bool → PlanFault → Option PlanFault
when test fault = if test then Some fault else None

-- the first of these faults that there is
abbrev pub first : List (Option PlanFault) → Option PlanFault
first [] = None
first (fault ∷ faults) = option_or fault (first faults)

-- the value, where there is no fault
abbrev pub without_fault : {T : Type 0} → Option PlanFault → T → Result T PlanFault
without_fault None value = Ok value
without_fault (Some fault) value = Err fault

-- ---- names of constraints

-- the name of the unique constraint that a column makes
abbrev pub unique_name : List ℕ → List ℕ → List ℕ
unique_name table column = table ++ codes "_" ++ column ++ codes "_key"

abbrev pub has_check : List ℕ → Shape → Bool
has_check name shape = list_any (λ check. bytes_eq check.name name) shape.checks

abbrev pub has_unique : List ℕ → Shape → Bool
has_unique name shape = list_any (λ unique. bytes_eq unique.name name) shape.uniques

-- The constraints of a table are its checks, its unique constraints and its key.
abbrev pub has_constraint : List ℕ → Table → Bool
has_constraint name table =
    has_check name table.2 || has_unique name table.2 || bytes_eq (key_name table.0) name
