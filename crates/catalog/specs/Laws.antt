-- What a view names, what stands where it finds its columns, and which constraints are valid.
use Rattle.std.specs.Prelude.{◌≡◌, ◌<◌, ℕ, Bool, true, false, List, Some, length, map, slice_index_or}
use Rattle.std.specs.List.{AllByRecursion}
use Rattle.sql_base.specs.declared.values.Value.{Value}
use Rattle.sql_base.specs.declared.values.Value.TheVariants.{Null}
use Rattle.mig_lens.specs.declared.columns.Side.{Side}
use Rattle.mig_lens.specs.declared.columns.Side.TheVariants.{Old, New}
use Rattle.mig_lens.specs.Plan.{Table}
use Rattle.trigger_pair.specs.declared.pairs.Pair.{Pair}
use Rattle.trigger_pair.specs.Laws.{IsPair}
use Rattle.trigger_pair.specs.Stored.{new_view, old_view}
use Rattle.phase_steps.specs.Places.{value_in}
use Rattle.phase_steps.specs.Rows.{trimmed_view}
use Rattle.catalog.specs.declared.versions.Known.{Known}
use Rattle.catalog.specs.declared.versions.Stage.{Stage}
use Rattle.catalog.specs.declared.versions.Stage.TheVariants.{Calm, Both, AfterFirst, AfterSecond, RolledBack}
use Rattle.catalog.specs.Valid.{has_constraint, is_constraint, valid}
use Rattle.catalog.specs.Versions.{table_on}
use Rattle.catalog.specs.Views.{pair_in, pair_positions, row_places, selected, view_of}

-- ---- names

-- The view of a table that both of a migration's versions have names each of the version's columns, in order, with the
-- positions of what it selects.
abbrev pub ViewsNameColumns : Type 0
ViewsNameColumns =
    (known : Known) (side : Side) (table : Table) (pair : Pair) → table_on known side table.1 ≡ Some table →
    pair_in known table.1 ≡ Some pair → IsPair pair →
    (map (λ column. column.0) (view_of known side table).columns ≡ map (λ column. column.name) table.2.columns)
    × (map (λ column. column.1) (view_of known side table).columns ≡ pair_positions known.stage side pair)

-- ---- what stands in the places

-- What stands in these places of a row.
abbrev pub values_at : List Value → List ℕ → List Value
values_at row positions = map (λ at. slice_index_or row at Null) positions

-- A view's positions are those of stored values.
abbrev pub PositionsAreWithin : Type 0
PositionsAreWithin =
    (stage : Stage) (side : Side) (pair : Pair) → IsPair pair →
    AllByRecursion (λ at. at < length (row_places stage pair)) (pair_positions stage side pair)

-- There stands what the row has in the places that the view selects.
abbrev pub PositionsFindSelected : Type 0
PositionsFindSelected =
    (stage : Stage) (side : Side) (pair : Pair) (row : List Value) → length row ≡ length (row_places stage pair) →
    values_at row (pair_positions stage side pair) ≡ map (value_in (row_places stage pair) row) (selected stage side pair)

-- What one of a migration's versions shows of a stored row of the whole layout.
abbrev pub half_shown : Side → Pair → List Value → List Value
half_shown Old pair row = old_view pair row
half_shown New pair row = new_view pair row

-- What the version of a side shows of a stored row at a stage.
abbrev pub shown : Stage → Side → Pair → List Value → List Value
shown (AfterSecond lost fates) side pair row = trimmed_view pair.lens row
shown Calm side pair row = half_shown side pair row
shown (Both name schema fates) side pair row = half_shown side pair row
shown (AfterFirst lost fates) side pair row = half_shown New pair row
shown (RolledBack lost fates) side pair row = half_shown Old pair row

-- There stands what the version shows of the row.
abbrev pub PositionsFindShown : Type 0
PositionsFindShown =
    (stage : Stage) (side : Side) (pair : Pair) (row : List Value) → IsPair pair →
    length row ≡ length (row_places stage pair) →
    values_at row (pair_positions stage side pair) ≡ shown stage side pair row

-- ---- constraints

-- Whether a migration is active.
abbrev pub is_active : Stage → Bool
is_active (Both name schema fates) = true
is_active Calm = false
is_active (AfterFirst lost fates) = false
is_active (AfterSecond lost fates) = false
is_active (RolledBack lost fates) = false

-- While none is active each constraint of the version that stands is valid.
abbrev pub ValidWhileCalm : Type 0
ValidWhileCalm =
    (known : Known) (number : ℕ) (name : List ℕ) → is_active known.stage ≡ false → is_constraint known number name ≡ true →
    valid known number name ≡ Some true

-- A constraint of the old version is valid at any stage.
abbrev pub OldConstraintsStayValid : Type 0
OldConstraintsStayValid =
    (known : Known) (number : ℕ) (name : List ℕ) → has_constraint (table_on known Old number) name ≡ true →
    valid known number name ≡ Some true
