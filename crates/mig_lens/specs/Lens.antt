-- The lens between a table's two shapes: which value each column has when its half of a row is made from the other half.
--
-- That a new column's value is made by an expression over the old row, and an old column's by one over the new row, is
-- pgroll's `up` and `down` (pgroll's documentation, Up and down migrations). The rest is our own.
use Rattle.std.specs.Prelude.{◌≡◌, ℕ, Bool, true, false, ◌==◌, ◌&&◌, List, [], ◌∷◌, map, slice_get, slice_index_or, unwrap_or, Option, Some, None, Result, Ok, Err}
use Rattle.std.specs.List.{enumerate_from, list_all}
use Rattle.std.specs.Option.{option_map}
use Rattle.sql_base.specs.declared.faults.EvalFault.{EvalFault}
use Rattle.sql_base.specs.declared.shapes.Column.{Column}
use Rattle.sql_base.specs.declared.shapes.Shape.{Shape}
use Rattle.sql_base.specs.declared.values.Ty.{Ty}
use Rattle.sql_base.specs.declared.values.Value.{Value}
use Rattle.sql_base.specs.declared.values.Value.TheVariants.{Null}
use Rattle.sql_eval.specs.Eval.{eval}
use Rattle.sql_base.specs.Outcome.{every}
use Rattle.sql_base.specs.Fit.{has_type}
use Rattle.sql_eval.specs.Typing.{Typed, same, fits as type_fits, type_of}
use Rattle.sql_eval.specs.Value.{Outcome}
use Rattle.mig_lens.specs.declared.columns.Cell.{Cell}
use Rattle.mig_lens.specs.declared.columns.Cell.TheVariants.{Carry, Make, Still}
use Rattle.mig_lens.specs.declared.columns.Lens.{Lens}

-- ---- one half from the other

-- the value at a place of a half, where there is such a half
abbrev pub value_before : Option (List Value) → ℕ → Option Value
value_before previous at = option_map (λ half. slice_index_or half at Null) previous

-- The value of a column by its cell: from the other side's half, which has this shape, and from the value that the column had before.
abbrev pub made : Shape → List Value → Option Value → Cell → Outcome
made shape half before (Carry at) = Ok (slice_index_or half at Null)
made shape half before (Make expr) = eval shape half expr
made shape half before (Still value) = Ok (unwrap_or before value)

-- What each of these columns comes to, in order; the first has this place.
abbrev pub outcomes : Shape → List Value → Option (List Value) → ℕ → List Cell → List Outcome
outcomes shape half previous at cells = map (λ cell. made shape half (value_before previous cell.0) cell.1) (enumerate_from at cells)

-- A half by its cells: the values of its columns in order, or the first fault.
abbrev pub half_made : List Cell → Shape → List Value → Option (List Value) → Result (List Value) EvalFault
half_made cells shape half previous = every (outcomes shape half previous 0 cells)

-- The new half of a row from its old half, and from its new half before, where it had one.
abbrev pub forward : Lens → Shape → List Value → Option (List Value) → Result (List Value) EvalFault
forward lens old half previous = half_made lens.new_cols old half previous

-- The old half of a row from its new half, and from its old half before, where it had one.
abbrev pub backward : Lens → Shape → List Value → Option (List Value) → Result (List Value) EvalFault
backward lens new half previous = half_made lens.old_cols new half previous

-- ---- a row that is still to be filled

-- What the new version shows of a column, by the column's cell, of a row that is still to be filled: a carried value, a constant, or NULL where the value is still to be made.
abbrev pub unfilled_value : List Value → Cell → Value
unfilled_value old (Carry at) = slice_index_or old at Null
unfilled_value old (Make expr) = Null
unfilled_value old (Still value) = value

-- What it shows of the whole row, from the row's old half.
abbrev pub unfilled : Lens → List Value → List Value
unfilled lens old = map (unfilled_value old) lens.new_cols

-- ---- lenses that fit two shapes

-- a column of this type, where there is one
abbrev pub is_of_type : Ty → Option Column → Bool
is_of_type ty None = false
is_of_type ty (Some column) = same ty column.ty

-- The place that a cell names is one of the other side's columns, and that has the column's type; a constant is NULL or of the column's type.
abbrev pub cell_fits : List Column → Column → Cell → Bool
cell_fits others column (Carry at) = is_of_type column.ty (slice_get others at)
cell_fits others column (Make expr) = true
cell_fits others column (Still value) = has_type (Some column.ty) value

-- one cell for each column
abbrev pub cells_fit : List Column → List Column → List Cell → Bool
cells_fit others [] [] = true
cells_fit others (column ∷ columns) (cell ∷ cells) = cell_fits others column cell && cells_fit others columns cells
cells_fit others _ _ = false

abbrev pub fits : Lens → Shape → Shape → Bool
fits lens old new = cells_fit old.columns new.columns lens.new_cols && cells_fit new.columns old.columns lens.old_cols

-- ---- lenses that are well formed

-- of the column's type, or of that of NULL
abbrev pub types_as : Ty → Typed → Bool
types_as ty (Ok found) = type_fits ty found
types_as ty (Err fault) = false

-- A column's expression has the column's type over the other side's shape.
abbrev pub cell_types : Shape → Column → Cell → Bool
cell_types other column (Carry at) = true
cell_types other column (Make expr) = types_as column.ty (type_of other expr)
cell_types other column (Still value) = true

abbrev pub cells_type : Shape → List Column → List Cell → Bool
cells_type other (column ∷ columns) (cell ∷ cells) = cell_types other column cell && cells_type other columns cells
cells_type other _ _ = true

abbrev pub is_carried_from : ℕ → Option Cell → Bool
is_carried_from place (Some (Carry at)) = at == place
is_carried_from place _ = false

-- whether the column at the first place, among these cells, carries the other side's column at the second
abbrev pub carries : List Cell → ℕ → ℕ → Bool
carries cells at other = is_carried_from other (slice_get cells at)

pub record IsWellFormed (lens : Lens) (old new : Shape) : Type 0 where
  pub ups : cells_type old new.columns lens.new_cols ≡ true
  pub downs : cells_type new old.columns lens.old_cols ≡ true
  -- the keys carry each other
  pub new_key : carries lens.new_cols new.key old.key ≡ true
  pub old_key : carries lens.old_cols old.key new.key ≡ true
  -- New column i carries old column j exactly where j carries i.
  pub both_ways : (i j : ℕ) → carries lens.new_cols i j ≡ carries lens.old_cols j i

-- Every cell carries: its half loses nothing by the lens.
abbrev pub is_carry : Cell → Bool
is_carry (Carry at) = true
is_carry (Make expr) = false
is_carry (Still value) = false

abbrev pub all_carry : List Cell → Bool
all_carry = list_all is_carry
