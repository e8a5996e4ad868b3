-- The names of the constraints that a row may break.
--
-- That a NOT NULL constraint has a name of its table and its column, and which, is our own.
use Rattle.std.specs.Prelude.{ℕ, List, ◌++◌, codes, slice_get}
use Rattle.std.specs.Option.{option_map_or}
use Rattle.sql_base.specs.declared.faults.RowFault.{RowFault}
use Rattle.sql_base.specs.declared.faults.RowFault.TheVariants as fault
use Rattle.sql_base.specs.declared.shapes.Shape.{Shape}

abbrev pub column_name : Shape → ℕ → List ℕ
column_name shape at = option_map_or (λ column. column.name) (slice_get shape.columns at) (codes "")

abbrev pub check_name : Shape → ℕ → List ℕ
check_name shape at = option_map_or (λ check. check.name) (slice_get shape.checks at) (codes "")

-- The name of the NOT NULL constraint of a column of the table that has this name: `<table>_<column>_not_null`.
abbrev pub not_null_name : List ℕ → Shape → ℕ → List ℕ
not_null_name table shape at = table ++ (codes "_" ++ (column_name shape at ++ codes "_not_null"))

-- The name of the constraint that isn't met: also that of a check that has no value.
abbrev pub broken_name : List ℕ → Shape → RowFault → List ℕ
broken_name table shape (fault.Null at) = not_null_name table shape at
broken_name table shape (fault.Check at) = check_name shape at
broken_name table shape (fault.Eval at why) = check_name shape at
