-- What it means that no constraint is told.
use Rattle.std.specs.Prelude.{◌≡◌, ℕ, ℤ, Bool, ◌&&◌, List, is_none}
use Rattle.std.specs.List.{list_all}
use Rattle.std.specs.Map.{keys_of}
use Rattle.sql_base.specs.declared.shapes.Shape.{Shape}
use Rattle.sql_base.specs.declared.shapes.Unique.{Unique}
use Rattle.sql_base.specs.declared.values.Value.{Value}
use Rattle.sql_eval.specs.Row.{clash, row_fault}
use Rattle.constraint.specs.Valid.{invalid}

abbrev pub have_no_fault : Shape → List (ℤ × List Value) → Bool
have_no_fault shape rows = list_all (λ row. is_none (row_fault shape row.1)) rows

abbrev pub have_no_clash : List (ℤ × List Value) → Unique → Bool
have_no_clash rows unique = list_all (λ key. is_none (clash unique rows key)) (keys_of rows)

-- No row has a fault, and none clashes with another one in a unique constraint.
abbrev pub are_valid : Shape → List (ℤ × List Value) → Bool
are_valid shape rows = have_no_fault shape rows && list_all (have_no_clash rows) shape.uniques

-- No constraint is told exactly of rows of which that is so.
abbrev pub NoneIsToldOfValidRows : Type 0
NoneIsToldOfValidRows = (table : List ℕ) (shape : Shape) (rows : List (ℤ × List Value)) → is_none (invalid table shape rows) ≡ are_valid shape rows
