-- What stands where a view finds its columns.
use Rattle.std.proofs.Common.{◌≡◌, ◌∙◌, ◌<◌, ℕ, zero, suc, ◌+◌, List, [], ◌∷◌, ◌++◌, Bool, true, false, not, cond, ◌||◌, Option, Some, None, add-zero, ap, arith, length, map, refl, sym, zero-add}
use Rattle.std.specs.Prelude.{◌==◌, filter, if◌then◌else◌, slice_get, slice_index_or}
use Rattle.std.specs.List.{AllByRecursion, enumerate_from}
use Rattle.std.proofs.lemmas.Bool.Decides.{nat_tests}
use Rattle.std.proofs.lemmas.List.Folds.{list_any-append}
use Rattle.std.proofs.lemmas.Option.{slice_get_within}
use Rattle.sql_base.specs.declared.values.Value.{Value}
use Rattle.sql_base.specs.declared.values.Value.TheVariants.{Null}
use Rattle.mig_lens.specs.declared.columns.Cell.{Cell}
use Rattle.mig_lens.specs.declared.columns.Cell.TheVariants.{Carry, Make, Still}
use Rattle.mig_lens.specs.declared.columns.Side.{Side}
use Rattle.mig_lens.specs.declared.columns.Side.TheVariants.{Old, New}
use Rattle.mig_lens.specs.Lens.{carries, is_carried_from, is_carry}
use Rattle.trigger_pair.specs.declared.pairs.Pair.{Pair}
use Rattle.trigger_pair.specs.Laws.{IsPair}
use Rattle.trigger_pair.specs.Stored.{new_view, old_view}
use Rattle.phase_steps.specs.Laws.{KeepsPlaces, Selects}
use Rattle.phase_steps.specs.Places.{Own, Place, Shadow, completed_places, carried_places, is_among, mark_places, new_place, old_places, paired_places, rolled_back_places, same_place, shadow_places, trimmed_row_places, value_in}
use Rattle.phase_steps.specs.Rows.{is_shadow}
use Rattle.catalog.specs.declared.versions.Stage.{Stage}
use Rattle.catalog.specs.declared.versions.Stage.TheVariants.{Calm, Both, AfterFirst, AfterSecond, RolledBack}
use Rattle.catalog.specs.Laws.{PositionsAreWithin, PositionsFindSelected, PositionsFindShown, half_shown, values_at}
use Rattle.catalog.specs.Views.{places_of_half, position_among, row_places, selected}

-- ---- values

number_after : (n : ℕ) → 1 + n ≡ suc n
number_after n = omega arith

value_at : (places : List Place) (row : List Value) (wanted : Place) → length row ≡ length places → slice_index_or row (position_among places wanted) Null ≡ value_in places row wanted
value_at [] [] wanted long = refl
value_at [] (v ∷ row) wanted long = absurd (omega arith)
value_at (place ∷ places) [] wanted long = absurd (omega arith)
value_at (place ∷ places) (v ∷ row) wanted long =
    let rest : slice_index_or row (position_among places wanted) Null ≡ value_in places row wanted = value_at places row wanted (omega arith) in
    let further = ap (λ n. slice_index_or (v ∷ row) n Null) (number_after (position_among places wanted)) in
    elim (same_place place wanted) as (λ b. slice_index_or (v ∷ row) (cond (not b) (1 + position_among places wanted) 0) Null ≡ (if b then v else value_in places row wanted))
    [ true ↦ refl | false ↦ further ∙ rest ]

values_found : (places wanted : List Place) (row : List Value) → length row ≡ length places → values_at row (map (position_among places) wanted) ≡ map (value_in places row) wanted
values_found places [] row long = refl
values_found places (place ∷ wanted) row long = rw (value_at places row place long, values_found places wanted row long) refl

pub find_selected : PositionsFindSelected
find_selected stage side pair row long = values_found (row_places stage pair) (selected stage side pair) row long

-- ---- what is shown

half_found : Selects old_view rolled_back_places → Selects new_view completed_places → (half : Side) (pair : Pair) (row : List Value) → IsPair pair → length row ≡ length (paired_places pair) → values_at row (map (position_among (paired_places pair)) (places_of_half half pair)) ≡ half_shown half pair row
half_found old new Old pair row is long = values_found (paired_places pair) (rolled_back_places pair) row long ∙ sym (old pair row is long)
half_found old new New pair row is long = values_found (paired_places pair) (completed_places pair) row long ∙ sym (new pair row is long)

pub find_shown : Selects old_view rolled_back_places → Selects new_view completed_places → KeepsPlaces 3 trimmed_row_places completed_places → PositionsFindShown
find_shown old new ordered (AfterSecond lost fates) side pair row is long = values_found (trimmed_row_places pair) (completed_places pair) row long ∙ sym (ordered pair row is long)
find_shown old new ordered Calm side pair row is long = half_found old new side pair row is long
find_shown old new ordered (Both name schema fates) side pair row is long = half_found old new side pair row is long
find_shown old new ordered (AfterFirst lost fates) side pair row is long = half_found old new New pair row is long
find_shown old new ordered (RolledBack lost fates) side pair row is long = half_found old new Old pair row is long

-- ---- places that are there

same : (at : ℕ) → (at == at + 0) ≡ true
same at = grind (arith, nat_tests)

other : (at i : ℕ) → (at == at + suc i) ≡ false
other at i = grind (arith, nat_tests)

next_number : (at i : ℕ) → at + 1 + i ≡ at + suc i
next_number at i = omega arith

abbrev own_from : ℕ → List Cell → List Place
own_from at cells = map (λ column. Own column.0) (enumerate_from at cells)

abbrev carried_from : ℕ → List Cell → List Place
carried_from at cells = map (λ column. Own column.0) (filter (λ column. is_carry column.1) (enumerate_from at cells))

abbrev shadows_from : ℕ → List Cell → List Place
shadows_from at cells = map (λ column. Shadow column.0) (filter (λ column. is_shadow column.1) (enumerate_from at cells))

own_among : (at : ℕ) (cells : List Cell) (i : ℕ) → i < length cells → is_among (own_from at cells) (Own (at + i)) ≡ true
own_among at [] i few = absurd (omega arith)
own_among at (cell ∷ cells) zero few = rw (same at) refl
own_among at (cell ∷ cells) (suc i) few =
    rw (other at i) (ap (λ n. is_among (own_from (at + 1) cells) (Own n)) (sym (next_number at i)) ∙ own_among (at + 1) cells i (omega arith))

carried_among : (at : ℕ) (cells : List Cell) (i from : ℕ) → slice_get cells i ≡ Some (Carry from) → is_among (carried_from at cells) (Own (at + i)) ≡ true
carried_among at [] i from e = cc
carried_among at (Carry j ∷ cells) zero from e = rw (same at) refl
carried_among at (Carry j ∷ cells) (suc i) from e =
    rw (other at i) (ap (λ n. is_among (carried_from (at + 1) cells) (Own n)) (sym (next_number at i)) ∙ carried_among (at + 1) cells i from e)
carried_among at (Make up ∷ cells) zero from e = cc
carried_among at (Make up ∷ cells) (suc i) from e =
    ap (λ n. is_among (carried_from (at + 1) cells) (Own n)) (sym (next_number at i)) ∙ carried_among (at + 1) cells i from e
carried_among at (Still x ∷ cells) zero from e = cc
carried_among at (Still x ∷ cells) (suc i) from e =
    ap (λ n. is_among (carried_from (at + 1) cells) (Own n)) (sym (next_number at i)) ∙ carried_among (at + 1) cells i from e

shadow_among : (at : ℕ) (cells : List Cell) (i : ℕ) (cell : Cell) → slice_get cells i ≡ Some cell → is_shadow cell ≡ true → is_among (shadows_from at cells) (Shadow (at + i)) ≡ true
shadow_among at [] i cell e h = cc
shadow_among at (Carry j ∷ cells) zero cell e h = let is : Carry j ≡ cell = cc in absurd (cc)
shadow_among at (Carry j ∷ cells) (suc i) cell e h =
    ap (λ n. is_among (shadows_from (at + 1) cells) (Shadow n)) (sym (next_number at i)) ∙ shadow_among (at + 1) cells i cell e h
shadow_among at (Make up ∷ cells) zero cell e h = rw (same at) refl
shadow_among at (Make up ∷ cells) (suc i) cell e h =
    rw (other at i) (ap (λ n. is_among (shadows_from (at + 1) cells) (Shadow n)) (sym (next_number at i)) ∙ shadow_among (at + 1) cells i cell e h)
shadow_among at (Still x ∷ cells) zero cell e h = rw (same at) refl
shadow_among at (Still x ∷ cells) (suc i) cell e h =
    rw (other at i) (ap (λ n. is_among (shadows_from (at + 1) cells) (Shadow n)) (sym (next_number at i)) ∙ shadow_among (at + 1) cells i cell e h)

-- ---- places in longer lists

or_true : (a : Bool) → (a || true) ≡ true
or_true true = refl
or_true false = refl

among_first : (xs ys : List Place) (wanted : Place) → is_among xs wanted ≡ true → is_among (xs ++ ys) wanted ≡ true
among_first xs ys wanted here = list_any-append (λ place. same_place place wanted) xs ys ∙ ap (λ b. b || is_among ys wanted) here

among_last : (xs ys : List Place) (wanted : Place) → is_among ys wanted ≡ true → is_among (xs ++ ys) wanted ≡ true
among_last xs ys wanted there =
    list_any-append (λ place. same_place place wanted) xs ys ∙ ap (λ b. is_among xs wanted || b) there ∙ or_true (is_among xs wanted)

-- ---- all places of a view

abbrev AllAmong : List Place → List Place → Type 0
AllAmong places wanted = AllByRecursion (λ place. is_among places place ≡ true) wanted

all_own : (places : List Place) (at : ℕ) (cells : List Cell) → ((i : ℕ) → i < length cells → is_among places (Own (at + i)) ≡ true) → AllAmong places (own_from at cells)
all_own places at [] each = tt
all_own places at (cell ∷ cells) each = (
  ap (λ n. is_among places (Own n)) (sym (add-zero at)) ∙ each 0 (omega arith),
  all_own places (at + 1) cells (λ i few. ap (λ n. is_among places (Own n)) (next_number at i) ∙ each (suc i) (omega arith)),
)

all_new : (places : List Place) (at : ℕ) (cells : List Cell) → ((i : ℕ) (cell : Cell) → slice_get cells i ≡ Some cell → is_among places (new_place (at + i, cell)) ≡ true) → AllAmong places (map new_place (enumerate_from at cells))
all_new places at [] each = tt
all_new places at (cell ∷ cells) each = (
  ap (λ n. is_among places (new_place (n, cell))) (sym (add-zero at)) ∙ each 0 cell refl,
  all_new places (at + 1) cells (λ i c e. ap (λ n. is_among places (new_place (n, c))) (next_number at i) ∙ each (suc i) c e),
)

-- ---- each view's places are among those of the rows

same_number : (n : ℕ) → (n == n) ≡ true
same_number n = grind (arith, nat_tests)

cell_carried : (cell : Option Cell) (at : ℕ) → is_carried_from at cell ≡ true → cell ≡ Some (Carry at)
cell_carried None at e = cc
cell_carried (Some (Carry from)) at e = let is : from ≡ at = grind (arith, nat_tests) in ap (λ n. Some (Carry n)) is
cell_carried (Some (Make up)) at e = cc
cell_carried (Some (Still x)) at e = cc

-- The old column that a new one carries, carries that one.
carried_back : (pair : Pair) → IsPair pair → (i from : ℕ) → slice_get pair.lens.new_cols i ≡ Some (Carry from) → slice_get pair.lens.old_cols from ≡ Some (Carry i)
carried_back pair is i from e =
    let there : carries pair.lens.new_cols i from ≡ true = ap (is_carried_from from) e ∙ same_number from in
    cell_carried (slice_get pair.lens.old_cols from) i (sym (is.lens.both_ways i from) ∙ there)

old_in_rows : (pair : Pair) → AllAmong (paired_places pair) (rolled_back_places pair)
old_in_rows pair =
    let old = old_places pair.lens.old_cols in
    let rest = shadow_places pair.lens.new_cols ++ mark_places pair.layout.mark in
    all_own (old ++ rest) 0 pair.lens.old_cols (λ i few. among_first old rest (Own (0 + i)) (own_among 0 pair.lens.old_cols i few))

shadow_in_row : (pair : Pair) (i : ℕ) (cell : Cell) → slice_get pair.lens.new_cols i ≡ Some cell → is_shadow cell ≡ true → is_among (paired_places pair) (Shadow (0 + i)) ≡ true
shadow_in_row pair i cell e shadow =
    let shadows = shadow_places pair.lens.new_cols in
    let mark = mark_places pair.layout.mark in
    among_last (old_places pair.lens.old_cols) (shadows ++ mark) (Shadow (0 + i))
    (among_first shadows mark (Shadow (0 + i)) (shadow_among 0 pair.lens.new_cols i cell e shadow))

shadow_in_trimmed : (pair : Pair) (i : ℕ) (cell : Cell) → slice_get pair.lens.new_cols i ≡ Some cell → is_shadow cell ≡ true → is_among (trimmed_row_places pair) (Shadow (0 + i)) ≡ true
shadow_in_trimmed pair i cell e shadow =
    among_last (carried_places pair.lens.old_cols) (shadow_places pair.lens.new_cols) (Shadow (0 + i))
    (shadow_among 0 pair.lens.new_cols i cell e shadow)

new_in_row : (pair : Pair) → IsPair pair → (i : ℕ) (cell : Cell) → slice_get pair.lens.new_cols i ≡ Some cell → is_among (paired_places pair) (new_place (0 + i, cell)) ≡ true
new_in_row pair is i (Carry from) e =
    let old = old_places pair.lens.old_cols in
    let rest = shadow_places pair.lens.new_cols ++ mark_places pair.layout.mark in
    ap (λ n. is_among (paired_places pair) (Own n)) (sym (zero-add from)) ∙
    among_first old rest (Own (0 + from)) (own_among 0 pair.lens.old_cols from (slice_get_within pair.lens.old_cols from (Carry i) (carried_back pair is i from e)))
new_in_row pair is i (Make up) e = shadow_in_row pair i (Make up) e refl
new_in_row pair is i (Still x) e = shadow_in_row pair i (Still x) e refl

new_in_trimmed_row : (pair : Pair) → IsPair pair → (i : ℕ) (cell : Cell) → slice_get pair.lens.new_cols i ≡ Some cell → is_among (trimmed_row_places pair) (new_place (0 + i, cell)) ≡ true
new_in_trimmed_row pair is i (Carry from) e =
    ap (λ n. is_among (trimmed_row_places pair) (Own n)) (sym (zero-add from)) ∙
    among_first (carried_places pair.lens.old_cols) (shadow_places pair.lens.new_cols) (Own (0 + from))
    (carried_among 0 pair.lens.old_cols from i (carried_back pair is i from e))
new_in_trimmed_row pair is i (Make up) e = shadow_in_trimmed pair i (Make up) e refl
new_in_trimmed_row pair is i (Still x) e = shadow_in_trimmed pair i (Still x) e refl

new_in_rows : (pair : Pair) → IsPair pair → AllAmong (paired_places pair) (completed_places pair)
new_in_rows pair is = all_new (paired_places pair) 0 pair.lens.new_cols (new_in_row pair is)

new_in_trimmed : (pair : Pair) → IsPair pair → AllAmong (trimmed_row_places pair) (completed_places pair)
new_in_trimmed pair is = all_new (trimmed_row_places pair) 0 pair.lens.new_cols (new_in_trimmed_row pair is)

half_in_rows : (half : Side) (pair : Pair) → IsPair pair → AllAmong (paired_places pair) (places_of_half half pair)
half_in_rows Old pair is = old_in_rows pair
half_in_rows New pair is = new_in_rows pair is

selected_in_rows : (stage : Stage) (side : Side) (pair : Pair) → IsPair pair → AllAmong (row_places stage pair) (selected stage side pair)
selected_in_rows Calm side pair is = half_in_rows side pair is
selected_in_rows (Both name schema fates) side pair is = half_in_rows side pair is
selected_in_rows (AfterFirst lost fates) side pair is = half_in_rows New pair is
selected_in_rows (AfterSecond lost fates) side pair is = new_in_trimmed pair is
selected_in_rows (RolledBack lost fates) side pair is = half_in_rows Old pair is

-- ---- positions

within_more : (here there : Bool) (n m : ℕ) → (there ≡ true → n < m) → (here || there) ≡ true → cond (not here) (1 + n) 0 < suc m
within_more true there n m below e = omega arith
within_more false there n m below e = let less : n < m = below e in omega arith

position_within : (places : List Place) (wanted : Place) → is_among places wanted ≡ true → position_among places wanted < length places
position_within [] wanted among = cc
position_within (place ∷ places) wanted among =
    within_more (same_place place wanted) (is_among places wanted) (position_among places wanted) (length places) (position_within places wanted) among

positions_within : (places wanted : List Place) → AllAmong places wanted → AllByRecursion (λ at. at < length places) (map (position_among places) wanted)
positions_within places [] among = tt
positions_within places (place ∷ wanted) among = (position_within places place among.0, positions_within places wanted among.1)

pub are_within : PositionsAreWithin
are_within stage side pair is = positions_within (row_places stage pair) (selected stage side pair) (selected_in_rows stage side pair is)
