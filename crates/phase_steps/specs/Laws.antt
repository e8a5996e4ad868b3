-- What the version that stands shows of its stored rows while a migration is completed or rolled back.
use Rattle.std.specs.Prelude.{◌≡◌, ℕ, true, List, [], Option, Some, None, filter, is_some, length, map, unwrap_or}
use Rattle.sql_base.specs.declared.values.Value.{Value}
use Rattle.sql_base.specs.declared.values.Value.TheVariants.{Null}
use Rattle.sql_base.specs.Fit.{fits_columns, row_fits}
use Rattle.trigger_pair.specs.declared.pairs.Pair.{Pair}
use Rattle.trigger_pair.specs.Laws.{IsPair}
use Rattle.trigger_pair.specs.Rows.{IsFilledRow, IsPairedRow}
use Rattle.trigger_pair.specs.Stored.{new_view, old_view, shadow_values}
use Rattle.phase_steps.specs.declared.phases.Cmd.{Cmd}
use Rattle.phase_steps.specs.declared.phases.Phase.{Phase}
use Rattle.phase_steps.specs.Phases.{may, next_step}
use Rattle.phase_steps.specs.Places.{Place, is_among, named, paired_places, trimmed_row_places, value_in}
use Rattle.phase_steps.specs.Rows.{IsLaidRow, IsTrimmedRow, is_shadow, left_row, left_values, restored, returned_row, trimmed, trimmed_columns, trimmed_view}

-- A row that is written between C1 and C2, over any row or none, shows the values that were written, and has a value for each place of the layout.
abbrev pub LeftRowsShow : Type 0
LeftRowsShow =
    (pair : Pair) (values : List Value) (before : Option (List Value)) → IsPair pair → row_fits pair.new values ≡ true →
    (new_view pair (left_row pair.lens values before) ≡ values) × (length (left_row pair.lens values before) ≡ length pair.layout.columns)

-- In the old columns it has what is left there: carried values, and what was there before.
abbrev pub LeftRowsKeep : Type 0
LeftRowsKeep =
    (pair : Pair) (values : List Value) (before : Option (List Value)) → IsPair pair →
    old_view pair (left_row pair.lens values before) ≡ left_values pair.lens.old_cols values (unwrap_or before [])

-- C2 keeps what the new version's view shows, of every row that has a value for each place of the layout.
abbrev pub TrimmingKeepsView : Type 0
TrimmingKeepsView =
    (pair : Pair) (row : List Value) → IsPair pair → length row ≡ length pair.layout.columns →
    trimmed_view pair.lens (trimmed pair.lens row) ≡ new_view pair row

-- After C3 such a row is what the new version's view showed of it before C2.
abbrev pub CompletedRowsShow : Type 0
CompletedRowsShow =
    (pair : Pair) (row : List Value) → IsPair pair → length row ≡ length pair.layout.columns →
    restored 3 pair.old pair.new pair.lens (restored 2 pair.old pair.new pair.lens row) ≡ new_view pair row

-- After a step a row has in each place what it had in that place before: the places are those after the step, in their order.
abbrev pub KeepsPlaces : ℕ → (Pair → List Place) → (Pair → List Place) → Type 0
KeepsPlaces step before after =
    (pair : Pair) (row : List Value) → IsPair pair → length row ≡ length (before pair) →
    restored step pair.old pair.new pair.lens row ≡ map (value_in (before pair) row) (after pair)

-- Of the places before it C2 leaves those that the new version's view selects, and B2 those that the old version's view selects.
abbrev pub Leaves : (Pair → List Place) → (Pair → List Place) → Type 0
Leaves after selected = (pair : Pair) → IsPair pair → after pair ≡ filter (is_among (selected pair)) (paired_places pair)

-- The places from START to C2 or B2 are those of the layout, by its names and in its order.
abbrev pub PlacesAreTheLayouts : Type 0
PlacesAreTheLayouts = (pair : Pair) → IsPair pair → map (named pair) (paired_places pair) ≡ map Some pair.layout.columns

-- Those between C2 and C3 are what C2 leaves of the layout.
abbrev pub TrimmedPlacesAreTheColumns : Type 0
TrimmedPlacesAreTheColumns =
    (pair : Pair) → IsPair pair →
    map (named pair) (trimmed_row_places pair) ≡ map Some (trimmed_columns pair)

-- What a view selects of a row of the layout's places is what the row has in these places.
abbrev pub Selects : (Pair → List Value → List Value) → (Pair → List Place) → Type 0
Selects view places =
    (pair : Pair) (row : List Value) → IsPair pair → length row ≡ length (paired_places pair) →
    view pair row ≡ map (value_in (paired_places pair) row) (places pair)

-- ---- which rows are stored, once one version is gone

-- The rows from START on are rows of the layout, so C1 and B1 change none.
abbrev pub PairedRowsAreLaid : Type 0
PairedRowsAreLaid = (pair : Pair) (stored : List Value) → IsPair pair → IsPairedRow pair stored → IsLaidRow pair stored

-- A row of the layout has a value for each of its places.
abbrev pub LaidRowsAreLong : Type 0
LaidRowsAreLong =
    (pair : Pair) (stored : List Value) → IsLaidRow pair stored →
    length stored ≡ length pair.layout.columns

-- What either view selects of it has a value for each of the version's columns, each NULL or of its column's type.
abbrev pub LaidRowsShowFitting : Type 0
LaidRowsShowFitting =
    (pair : Pair) (stored : List Value) → IsPair pair → IsLaidRow pair stored →
    (fits_columns pair.old.columns (old_view pair stored) ≡ true)
    × (fits_columns pair.new.columns (new_view pair stored) ≡ true)

-- C2 leaves of it a row of the carried columns and the shadow places.
abbrev pub TrimmingLeavesTrimmed : Type 0
TrimmingLeavesTrimmed =
    (pair : Pair) (row : List Value) → IsPair pair → IsLaidRow pair row →
    IsTrimmedRow pair (trimmed pair.lens row)

-- Such a row has a value for each of these.
abbrev pub TrimmedRowsAreLong : Type 0
TrimmedRowsAreLong =
    (pair : Pair) (stored : List Value) → IsTrimmedRow pair stored →
    length stored ≡ length (trimmed_columns pair)

-- What the new version selects of it fits that version's columns.
abbrev pub TrimmedRowsShowFitting : Type 0
TrimmedRowsShowFitting =
    (pair : Pair) (stored : List Value) → IsPair pair → IsTrimmedRow pair stored →
    fits_columns pair.new.columns (trimmed_view pair.lens stored) ≡ true

-- What was stored before, if anything was, is a row of the layout.
abbrev pub LaidBefore : Pair → Option (List Value) → Type 0
LaidBefore pair None = Unit {0}
LaidBefore pair (Some stored) = IsLaidRow pair stored

-- A row that is written between C1 and C2 over a row of the layout, or over none, is a filled row,
abbrev pub LeftRowsAreFilled : Type 0
LeftRowsAreFilled =
    (pair : Pair) (values : List Value) (before : Option (List Value)) → IsPair pair → row_fits pair.new values ≡ true →
    LaidBefore pair before → IsFilledRow pair (left_row pair.lens values before)

-- and so is a row of the layout.
abbrev pub LeftRowsAreLaid : Type 0
LeftRowsAreLaid =
    (pair : Pair) (values : List Value) (before : Option (List Value)) → IsPair pair → row_fits pair.new values ≡ true →
    LaidBefore pair before → IsLaidRow pair (left_row pair.lens values before)

-- ---- rows that are written after the new version is gone

-- A row that is written between B1 and B2, over a row of the layout or over none, shows the values that were written,
-- and is a row of the layout.
abbrev pub ReturnedRowsShow : Type 0
ReturnedRowsShow =
    (pair : Pair) (values : List Value) (before : Option (List Value)) → IsPair pair → row_fits pair.old values ≡ true →
    LaidBefore pair before →
    (old_view pair (returned_row pair.lens values before) ≡ values)
    × IsLaidRow pair (returned_row pair.lens values before)

-- What the new version's view selects of a row in columns that aren't carried.
abbrev pub shadows_shown : Pair → List Value → List Value
shadows_shown pair row = shadow_values pair.lens.new_cols (new_view pair row)

-- What a row had there before, if there was one; NULLs in a new row.
abbrev pub shadows_before : Pair → Option (List Value) → List Value
shadows_before pair None = map (λ cell. Null) (filter is_shadow pair.lens.new_cols)
shadows_before pair (Some stored) = shadows_shown pair stored

-- A row that is written then, over any row or none, has there what was there before.
abbrev pub ReturnedRowsKeep : Type 0
ReturnedRowsKeep =
    (pair : Pair) (values : List Value) (before : Option (List Value)) → IsPair pair → row_fits pair.old values ≡ true →
    shadows_shown pair (returned_row pair.lens values before) ≡ shadows_before pair before

-- ---- commands and their steps

-- A command that may not come in a phase takes no step.
abbrev pub RefusedTakeNoStep : Cmd → Type 0
RefusedTakeNoStep cmd = (phase : Phase) → is_some (may cmd phase) ≡ true → next_step cmd phase ≡ None

-- One that may come takes a step.
abbrev pub OthersTakeAStep : Cmd → Type 0
OthersTakeAStep cmd = (phase : Phase) → may cmd phase ≡ None → is_some (next_step cmd phase) ≡ true
