-- Which places the stored rows of a table have that both versions have, before a step and after it.
use Rattle.std.specs.Prelude.{ℕ, Bool, true, false, ◌==◌, List, [], ◌∷◌, ◌++◌, codes, filter, map, slice_get, Option, Some, if◌then◌else◌}
use Rattle.std.specs.List.{enumerate_from, list_any}
use Rattle.std.specs.Option.{option_map}
use Rattle.sql_base.specs.declared.shapes.Column.{Column}
use Rattle.sql_base.specs.declared.values.Ty.TheVariants as ty
use Rattle.sql_base.specs.declared.values.Value.{Value}
use Rattle.sql_base.specs.declared.values.Value.TheVariants.{Null}
use Rattle.mig_lens.specs.declared.columns.Cell.{Cell}
use Rattle.mig_lens.specs.declared.columns.Cell.TheVariants.{Carry, Make, Still}
use Rattle.mig_lens.specs.Layout.{StoredPlace, place_of, shadow_name}
use Rattle.mig_lens.specs.Lens.{is_carry}
use Rattle.trigger_pair.specs.declared.pairs.Pair.{Pair}
use Rattle.phase_steps.specs.Rows.{is_shadow}

-- The place of the old column, or of the new one that isn't carried, with this number, or of the mark.
pub data Place : Type 0 where
  Own : ℕ → Place
  Shadow : ℕ → Place
  Mark : Place

abbrev pub same_place : Place → Place → Bool
same_place (Own i) (Own j) = i == j
same_place (Shadow i) (Shadow j) = i == j
same_place Mark Mark = true
same_place _ _ = false

-- What a row with these places has in one of them.
abbrev pub value_in : List Place → List Value → Place → Value
value_in (place ∷ places) (value ∷ values) wanted = if same_place place wanted then value else value_in places values wanted
value_in _ _ wanted = Null

-- ---- places of columns, by their cells

abbrev pub old_places : List Cell → List Place
old_places cells = map (λ column. Own column.0) (enumerate_from 0 cells)

abbrev pub carried_places : List Cell → List Place
carried_places cells = map (λ column. Own column.0) (filter (λ column. is_carry column.1) (enumerate_from 0 cells))

abbrev pub shadow_places : List Cell → List Place
shadow_places cells = map (λ column. Shadow column.0) (filter (λ column. is_shadow column.1) (enumerate_from 0 cells))

-- the place of a new column: that of the old column which it carries, or its own
abbrev pub new_place : ℕ × Cell → Place
new_place (at, Carry from) = Own from
new_place (at, Make expr) = Shadow at
new_place (at, Still value) = Shadow at

abbrev pub new_places : List Cell → List Place
new_places cells = map new_place (enumerate_from 0 cells)

abbrev pub mark_places : Bool → List Place
mark_places true = Mark ∷ []
mark_places false = []

-- ---- places of rows

-- From START to C2 or B2.
abbrev pub paired_places : Pair → List Place
paired_places pair = old_places pair.lens.old_cols ++ (shadow_places pair.lens.new_cols ++ mark_places pair.layout.mark)

-- Between C2 and C3.
abbrev pub trimmed_row_places : Pair → List Place
trimmed_row_places pair = carried_places pair.lens.old_cols ++ shadow_places pair.lens.new_cols

-- After C3: those that the new version's view selects, in its order.
abbrev pub completed_places : Pair → List Place
completed_places pair = new_places pair.lens.new_cols

-- After B2: those that the old version's view selects.
abbrev pub rolled_back_places : Pair → List Place
rolled_back_places pair = old_places pair.lens.old_cols

-- whether a place is one of these
abbrev pub is_among : List Place → Place → Bool
is_among places wanted = list_any (λ place. same_place place wanted) places

-- ---- their names

abbrev pub shadow_named : Column → StoredPlace
shadow_named column = (shadow_name column.name, column.ty)

-- How the layout of both versions has a place.
abbrev pub named : Pair → Place → Option StoredPlace
named pair (Own at) = option_map place_of (slice_get pair.old.columns at)
named pair (Shadow at) = option_map shadow_named (slice_get pair.new.columns at)
named pair Mark = Some (codes "_pgroll_needs_backfill", ty.Boolean)
