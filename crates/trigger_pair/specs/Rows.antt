-- Which rows are stored by a pair's layout.
use Rattle.std.specs.Prelude.{◌≡◌, ◌⊎◌, Bool, true, false, List}
use Rattle.sql_base.specs.declared.values.Value.{Value}
use Rattle.sql_base.specs.Fit.{fits_columns}
use Rattle.trigger_pair.specs.declared.pairs.Pair.{Pair}
use Rattle.trigger_pair.specs.Stored.{begun, stored_row}

-- A row that was put together in this way of a value for each old column and one for each new column. Each value is NULL or of its column's type.
pub record IsOf (pair : Pair) (together : List Value → List Value → List Value) (stored : List Value) : Type 0 where
  pub old : List Value
  pub new : List Value
  pub old_fits : fits_columns pair.old.columns old ≡ true
  pub new_fits : fits_columns pair.new.columns new ≡ true
  pub is : stored ≡ together old new

-- A row that is filled isn't marked.
abbrev pub filled_row : Pair → List Value → List Value → List Value
filled_row pair old new = stored_row pair old new false

abbrev pub IsFilledRow : Pair → List Value → Type 0
IsFilledRow pair stored = IsOf pair (filled_row pair) stored

-- One that is still to be filled is what START left of a row with these values. Its table has a mark.
pub record IsUnfilledRow (pair : Pair) (stored : List Value) : Type 0 where
  pub old : List Value
  pub fits : fits_columns pair.old.columns old ≡ true
  pub mark : pair.layout.mark ≡ true
  pub is : stored ≡ begun pair old

-- Where the table has a mark START leaves rows that are still to be filled, and elsewhere filled ones.
abbrev pub IsBegunRow : Bool → Pair → List Value → Type 0
IsBegunRow true pair stored = IsUnfilledRow pair stored
IsBegunRow false pair stored = IsFilledRow pair stored

-- While both versions stand each row is one or the other.
abbrev pub IsPairedRow : Pair → List Value → Type 0
IsPairedRow pair stored = IsFilledRow pair stored ⊎ IsUnfilledRow pair stored
