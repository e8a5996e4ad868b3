-- What becomes of the stored rows of a table that both versions have, step by step from START until one version stands alone.
--
-- A migration begins with START. From then on both versions stand, and a row is stored as the triggers leave it. It is completed in three steps: C1 drops the old version's views, C2 removes the places that only the old version showed, and C3 puts the places in the order of the new version's columns. It is rolled back in two: B1 drops the new version's views, and B2 removes the places that only the new version showed. Between two steps rows are written by the version that stands. That completing removes the old columns, and that rolling back removes the new ones, is pgroll's (its documentation, How pgroll works); the steps and the rest are our own.
use Rattle.std.specs.Prelude.{◌≡◌, ℕ, ◌+◌, Bool, ◌&&◌, ◌==◌, false, true, List, [], ◌∷◌, ◌++◌, Option, Some, None, drop, filter, length, map, slice_index_or, take, unwrap_or, if◌then◌else◌}
use Rattle.std.specs.List.{enumerate_from}
use Rattle.sql_base.specs.declared.shapes.Column.{Column}
use Rattle.sql_base.specs.declared.shapes.Shape.{Shape}
use Rattle.sql_base.specs.declared.values.Value.{Value}
use Rattle.sql_base.specs.declared.values.Value.TheVariants.{Null}
use Rattle.sql_base.specs.Fit.{has_type}
use Rattle.mig_lens.specs.declared.columns.Cell.{Cell}
use Rattle.mig_lens.specs.declared.columns.Cell.TheVariants.{Carry, Make, Still}
use Rattle.mig_lens.specs.declared.columns.Lens.{Lens}
use Rattle.mig_lens.specs.Layout.{StoredPlace, has_mark, layout, place_of, shadows}
use Rattle.mig_lens.specs.Lens.{is_carry}
use Rattle.trigger_pair.specs.declared.pairs.Pair.{Pair}
use Rattle.trigger_pair.specs.Stored.{begun, mark_value, old_view, shadow_values}

abbrev pub pair_of : Shape → Shape → Lens → Pair
pair_of old new lens = record { old = old; new = new; lens = lens; layout = layout old new lens }

-- ---- which rows are stored, once one version is gone

-- As many values as stored places, each NULL or of its place's type.
abbrev pub fits_places : List StoredPlace → List Value → Bool
fits_places [] [] = true
fits_places (place ∷ places) (value ∷ values) = has_type (Some place.1) value && fits_places places values
fits_places _ _ = false

-- A row of a pair's layout: a value for each old column, for each shadow place, and for the mark, where there is one.
-- The mark says nothing then, and may be NULL. Such rows are stored between C1 and C2, and between B1 and B2.
abbrev pub IsLaidRow : Pair → List Value → Type 0
IsLaidRow pair stored = fits_places pair.layout.columns stored ≡ true

-- Of an old column that is carried C2 leaves the place.
abbrev pub carried_column : Column → Cell → List StoredPlace
carried_column column (Carry at) = place_of column ∷ []
carried_column column (Make expr) = []
carried_column column (Still constant) = []

-- those of the old columns, in old order
abbrev pub carried_columns : List Column → List Cell → List StoredPlace
carried_columns (column ∷ columns) (cell ∷ cells) = carried_column column cell ++ carried_columns columns cells
carried_columns _ _ = []

-- What C2 leaves of a layout: the old columns that are carried, and then the shadow places.
abbrev pub trimmed_columns : Pair → List StoredPlace
trimmed_columns pair =
    carried_columns pair.old.columns pair.lens.old_cols ++ shadows pair.new.columns pair.lens.new_cols

-- A row of what C2 leaves. Such rows are stored between C2 and C3.
abbrev pub IsTrimmedRow : Pair → List Value → Type 0
IsTrimmedRow pair stored = fits_places (trimmed_columns pair) stored ≡ true

-- ---- the old columns leave

-- The values of old columns that are carried, in old order.
abbrev pub carried_of : Cell → Value → List Value
carried_of (Carry at) value = value ∷ []
carried_of (Make expr) value = []
carried_of (Still constant) value = []

abbrev pub carried_values : List Cell → List Value → List Value
carried_values (cell ∷ cells) (value ∷ values) = carried_of cell value ++ carried_values cells values
carried_values _ _ = []

abbrev pub is_shadow : Cell → Bool
is_shadow (Carry at) = false
is_shadow (Make expr) = true
is_shadow (Still value) = true

-- The shadow values of a stored row, behind the old columns.
abbrev pub shadows_in : Lens → List Value → List Value
shadows_in lens row = take (length (filter is_shadow lens.new_cols)) (drop (length lens.old_cols) row)

-- A stored row after C2: the carried values in old order, and then the shadow values.
abbrev pub trimmed : Lens → List Value → List Value
trimmed lens row = carried_values lens.old_cols row ++ shadows_in lens row

-- The place of an old column among the carried ones.
abbrev pub carried_before : List Cell → ℕ → ℕ
carried_before cells at = length (filter is_carry (take at cells))

-- The place of each new column in a row after C2. Those that aren't carried stand behind the others.
abbrev pub trimmed_places : List Cell → ℕ → List Cell → List ℕ
trimmed_places old_cols next [] = []
trimmed_places old_cols next (Carry at ∷ cells) = carried_before old_cols at ∷ trimmed_places old_cols next cells
trimmed_places old_cols next (Make expr ∷ cells) = next ∷ trimmed_places old_cols (next + 1) cells
trimmed_places old_cols next (Still value ∷ cells) = next ∷ trimmed_places old_cols (next + 1) cells

-- What the version that stands selects of a row after C2. It is the row after C3.
abbrev pub trimmed_view : Lens → List Value → List Value
trimmed_view lens row = map (λ at. slice_index_or row at Null) (trimmed_places lens.old_cols (length (filter is_carry lens.old_cols)) lens.new_cols)

-- ---- a row that is written meanwhile

-- What an old column's place holds: a carried one the value that is written, and another one what it held before.
abbrev pub left_value : List Value → List Value → ℕ × Cell → Value
left_value values held (at, Carry from) = slice_index_or values from Null
left_value values held (at, Make expr) = slice_index_or held at Null
left_value values held (at, Still constant) = slice_index_or held at Null

abbrev pub left_values : List Cell → List Value → List Value → List Value
left_values cells values held = map (left_value values held) (enumerate_from 0 cells)

-- The stored row of new values that are written between C1 and C2, over the row that was stored, if there was one: an old column that isn't carried keeps the value that it had, or is NULL in a new row. It isn't marked.
abbrev pub left_row : Lens → List Value → Option (List Value) → List Value
left_row lens values before = left_values lens.old_cols values (unwrap_or before []) ++ shadow_values lens.new_cols values ++ mark_value (has_mark lens) false

-- ---- a row that is written after the new version is gone

-- What stands behind the old columns in a new row: NULL in each shadow place, and a mark that is false, where there is one.
abbrev pub no_shadows : Lens → List Value
no_shadows lens = map (λ cell. Null) (filter is_shadow lens.new_cols) ++ mark_value (has_mark lens) false

-- What stands there over a row that was stored, if there was one: what it had there.
abbrev pub behind_old : Lens → Option (List Value) → List Value
behind_old lens None = no_shadows lens
behind_old lens (Some stored) = drop (length lens.old_cols) stored

-- The stored row of old values that are written between B1 and B2, over the row that was stored, if there was one: the shadow places and the mark keep what they had, and are NULL and false in a new row.
abbrev pub returned_row : Lens → List Value → Option (List Value) → List Value
returned_row lens values before = values ++ behind_old lens before

-- ---- the steps

-- A stored row after a step, from the row before it. START, C2, C3 and B2, which are 0, 2, 3 and 5, change rows; C1 and B1, which are 1 and 4, change none.
abbrev pub restored : ℕ → Shape → Shape → Lens → List Value → List Value
restored step old new lens row =
    if step == 0 then begun (pair_of old new lens) row
    else if step == 2 then trimmed lens row
    else if step == 3 then trimmed_view lens row
    else if step == 5 then old_view (pair_of old new lens) row
    else row
