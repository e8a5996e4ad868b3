-- What holds of stored rows, whatever the pair and the rows are.
use Rattle.std.specs.Prelude.{◌≡◌, ℕ, Bool, true, false, ◌&&◌, List, Option, Some, None, Ok, length, slice_index_or}
use Rattle.std.specs.Option.{option_map, option_and_then}
use Rattle.sql_base.specs.declared.values.Value.{Value}
use Rattle.sql_base.specs.declared.values.Value.TheVariants.{Null, Bool as Truth}
use Rattle.sql_base.specs.Fit.{row_fits}
use Rattle.sql_eval.specs.Shape.{WellFormed}
use Rattle.mig_lens.specs.declared.columns.Side.TheVariants.{Old, New}
use Rattle.mig_lens.specs.Laws.{FitsBefore}
use Rattle.mig_lens.specs.Layout.{layout}
use Rattle.mig_lens.specs.Lens.{IsWellFormed, backward, carries, fits, forward, unfilled}
use Rattle.trigger_pair.specs.declared.pairs.Pair.{Pair}
use Rattle.trigger_pair.specs.Rows.{IsBegunRow, IsFilledRow, IsUnfilledRow}
use Rattle.trigger_pair.specs.Stored.{begun, filled, fired, is_marked, last_value, new_half, new_view, old_view, stored_row}

-- A pair: two well-formed shapes, a lens that is well formed over them and fits them, and the layout that the three have.
pub record IsPair (pair : Pair) : Type 0 where
  pub old : WellFormed pair.old
  pub new : WellFormed pair.new
  pub fitting : fits pair.lens pair.old pair.new ≡ true
  pub lens : IsWellFormed pair.lens pair.old pair.new
  pub layout : pair.layout ≡ layout pair.old pair.new pair.lens

-- A stored row shows these values through the two views, is marked or isn't, and has a value for each place of the layout; where the table has a mark, it is that truth value, and so not NULL.
pub record Holds (pair : Pair) (old new : List Value) (marked : Bool) (stored : List Value) : Type 0 where
  pub old_shown : old_view pair stored ≡ old
  pub new_shown : new_view pair stored ≡ new
  pub mark : is_marked pair stored ≡ marked
  pub mark_held : pair.layout.mark ≡ true → last_value stored ≡ Some (Truth marked)
  pub long : length stored ≡ length pair.layout.columns

-- The lens of a pair has a cell for each column of either version.
abbrev pub PairsAreLong : Type 0
PairsAreLong = (pair : Pair) → IsPair pair → (length pair.lens.old_cols ≡ length pair.old.columns) × (length pair.lens.new_cols ≡ length pair.new.columns)

-- Two halves have the same value in each column that is carried.
abbrev pub Agree : Pair → List Value → List Value → Type 0
Agree pair old new = (i at : ℕ) → carries pair.lens.new_cols i at ≡ true → slice_index_or new i Null ≡ slice_index_or old at Null

-- The stored row of two halves that agree, each with a value for each of its columns, shows the two; it is marked where the table has a mark and the row is to be marked.
abbrev pub StoredRowsHold : Type 0
StoredRowsHold =
    (pair : Pair) (old new : List Value) (marked : Bool) → IsPair pair → length old ≡ length pair.old.columns → length new ≡ length pair.new.columns → Agree pair old new →
    Holds pair old new (pair.layout.mark && marked) (stored_row pair old new marked)

-- After a write through the old version the row holds the half that was written, and the new half that the lens makes of it and of the new half before, and isn't marked.
abbrev pub OldWritesHold : Type 0
OldWritesHold =
    (pair : Pair) (half stored : List Value) (before : Option (List Value)) → IsPair pair → row_fits pair.old half ≡ true → fired pair Old half before ≡ Ok stored →
    (made : List Value) × (forward pair.lens pair.old half (option_and_then (new_half pair) before) ≡ Ok made) × Holds pair half made false stored

-- After a write through the new version it holds the half that was written, and the old half that the lens makes of it and of the old half before, and isn't marked.
abbrev pub NewWritesHold : Type 0
NewWritesHold =
    (pair : Pair) (half stored : List Value) (before : Option (List Value)) → IsPair pair → row_fits pair.new half ≡ true → fired pair New half before ≡ Ok stored →
    (made : List Value) × (backward pair.lens pair.new half (option_map (old_view pair) before) ≡ Ok made) × Holds pair made half false stored

-- A filled row holds its old half as it was, and the new half that the lens makes of it without one before, and isn't marked.
abbrev pub FilledRowsHold : Type 0
FilledRowsHold =
    (pair : Pair) (before stored : List Value) → IsPair pair → row_fits pair.old (old_view pair before) ≡ true → filled pair before ≡ Ok stored →
    (made : List Value) × (forward pair.lens pair.old (old_view pair before) None ≡ Ok made) × Holds pair (old_view pair before) made false stored

-- A row that START leaves holds its values as its old half, shows through the new view what a row shows that is still to be filled, and is marked exactly where its table has a mark.
abbrev pub BegunRowsHold : Type 0
BegunRowsHold =
    (pair : Pair) (old : List Value) → IsPair pair → row_fits pair.old old ≡ true → Holds pair old (unfilled pair.lens old) pair.layout.mark (begun pair old)

-- ---- which rows there are

-- A write through the old version leaves a filled row, if the new half before fitted, where there was one.
abbrev pub OldWritesFill : Type 0
OldWritesFill =
    (pair : Pair) (half stored : List Value) (before : Option (List Value)) → IsPair pair → row_fits pair.old half ≡ true → FitsBefore pair.new (option_and_then (new_half pair) before) → fired pair Old half before ≡ Ok stored →
    IsFilledRow pair stored

-- So does a write through the new version, if the old half before fitted, where there was one.
abbrev pub NewWritesFill : Type 0
NewWritesFill =
    (pair : Pair) (half stored : List Value) (before : Option (List Value)) → IsPair pair → row_fits pair.new half ≡ true → FitsBefore pair.old (option_map (old_view pair) before) → fired pair New half before ≡ Ok stored →
    IsFilledRow pair stored

-- Filling leaves a filled row.
abbrev pub FillingFills : Type 0
FillingFills = (pair : Pair) (before stored : List Value) → IsPair pair → row_fits pair.old (old_view pair before) ≡ true → filled pair before ≡ Ok stored → IsFilledRow pair stored

-- START leaves rows that are still to be filled where the table has a mark, and filled ones elsewhere.
abbrev pub BeginningLeaves : Type 0
BeginningLeaves = (pair : Pair) (old : List Value) → IsPair pair → row_fits pair.old old ≡ true → IsBegunRow pair.layout.mark pair (begun pair old)

-- A filled row has a value for each place of the layout, and isn't marked.
abbrev pub FilledRowsAreLong : Type 0
FilledRowsAreLong = (pair : Pair) (stored : List Value) → IsPair pair → IsFilledRow pair stored → (length stored ≡ length pair.layout.columns) × (is_marked pair stored ≡ false)

-- So has one that is still to be filled; it is marked, and is what START leaves of its old half.
abbrev pub UnfilledRowsAreBegun : Type 0
UnfilledRowsAreBegun =
    (pair : Pair) (stored : List Value) → IsPair pair → IsUnfilledRow pair stored →
    (length stored ≡ length pair.layout.columns) × (is_marked pair stored ≡ true) × (stored ≡ begun pair (old_view pair stored))
