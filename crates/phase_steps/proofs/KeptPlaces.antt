-- C2, C3 and B2 keep what stands in each place that stays.
use Rattle.std.proofs.Common.{◌≡◌, ◌∙◌, ◌<◌, ◌≤◌, ℕ, zero, suc, ◌+◌, List, [], ◌∷◌, ◌++◌, Bool, true, false, Some, length, map, take, drop, zero-add, add-zero, append-nil, append_assoc, length-append, length-drop, ap, refl, sym, arith}
use Rattle.std.specs.Option.{option_map}
use Rattle.std.specs.Prelude.{◌==◌, filter, slice_get, slice_index_or}
use Rattle.std.specs.List.{enumerate_from}
use Rattle.std.proofs.lemmas.Bool.Decides.{nat_tests}
use Rattle.std.proofs.lemmas.List.{get_or-drop, map-append}
use Rattle.std.proofs.lemmas.Option.{slice_get_within}
use Rattle.sql_base.specs.declared.shapes.Column.{Column}
use Rattle.sql_base.specs.declared.values.Value.{Value}
use Rattle.sql_base.specs.declared.values.Value.TheVariants.{Null}
use Rattle.mig_lens.specs.declared.columns.Cell.{Cell}
use Rattle.mig_lens.specs.declared.columns.Cell.TheVariants.{Carry, Make, Still}
use Rattle.mig_lens.specs.Layout.{mark_place, place_of, shadows}
use Rattle.mig_lens.specs.Lens.{is_carry}
use Rattle.trigger_pair.specs.declared.pairs.Pair.{Pair}
use Rattle.trigger_pair.specs.Laws.{IsPair, PairsAreLong}
use Rattle.trigger_pair.specs.Stored.{new_view, old_view, places}
use Rattle.phase_steps.specs.Laws.{KeepsPlaces, PlacesAreTheLayouts, Selects, TrimmedPlacesAreTheColumns}
use Rattle.phase_steps.specs.Places.{Own, Place, Shadow, carried_places, completed_places, mark_places, named, new_place, old_places, paired_places, rolled_back_places, shadow_named, shadow_places, trimmed_row_places, value_in}
use Rattle.phase_steps.specs.Rows.{carried_before, carried_columns, carried_values, is_shadow, shadows_in, trimmed_places}
use Rattle.phase_steps.proofs.WrittenRows.{carried_cell, carry_carries}

-- ---- places of these cells, the first of which has this number

abbrev pub own_from : ℕ → List Cell → List Place
own_from at cells = map (λ column. Own column.0) (enumerate_from at cells)

abbrev pub carried_from : ℕ → List Cell → List Place
carried_from at cells = map (λ column. Own column.0) (filter (λ column. is_carry column.1) (enumerate_from at cells))

abbrev pub shadows_from : ℕ → List Cell → List Place
shadows_from at cells = map (λ column. Shadow column.0) (filter (λ column. is_shadow column.1) (enumerate_from at cells))

abbrev pub new_from : ℕ → List Cell → List Place
new_from at cells = map new_place (enumerate_from at cells)

abbrev shadows_before : List Cell → ℕ → ℕ
shadows_before cells i = length (filter is_shadow (take i cells))

-- ---- numbers

pub same : (at : ℕ) → (at == at + 0) ≡ true
same at = grind (arith, nat_tests)

pub other : (at i : ℕ) → (at == at + suc i) ≡ false
other at i = grind (arith, nat_tests)

pub next_number : (at i : ℕ) → at + 1 + i ≡ at + suc i
next_number at i = omega arith

-- ---- what stands in a place

no_value : (i : ℕ) → slice_index_or [] i Null ≡ Null
no_value zero = refl
no_value (suc i) = refl

nothing_in : (places : List Place) (wanted : Place) → value_in places [] wanted ≡ Null
nothing_in [] wanted = refl
nothing_in (place ∷ places) wanted = refl

own_value : (at : ℕ) (cells : List Cell) (rest : List Place) (row : List Value) (i : ℕ) → i < length cells → value_in (own_from at cells ++ rest) row (Own (at + i)) ≡ slice_index_or row i Null
own_value at [] rest row i few = absurd (omega arith)
own_value at (cell ∷ cells) rest [] i few = sym (no_value i)
own_value at (cell ∷ cells) rest (v ∷ row) zero few = rw (same at) refl
own_value at (cell ∷ cells) rest (v ∷ row) (suc i) few =
    rw (other at i) (ap (λ n. value_in (own_from (at + 1) cells ++ rest) row (Own n)) (sym (next_number at i)) ∙ own_value (at + 1) cells rest row i (omega arith))

own_skipped : (at : ℕ) (cells : List Cell) (rest : List Place) (row : List Value) (i : ℕ) → value_in (own_from at cells ++ rest) row (Shadow i) ≡ value_in rest (drop (length cells) row) (Shadow i)
own_skipped at [] rest row i = refl
own_skipped at (cell ∷ cells) rest [] i = sym (nothing_in rest (Shadow i))
own_skipped at (cell ∷ cells) rest (v ∷ row) i = own_skipped (at + 1) cells rest row i

carried_value : (at : ℕ) (cells : List Cell) (rest : List Place) (row : List Value) (i from : ℕ) → slice_get cells i ≡ Some (Carry from) → value_in (carried_from at cells ++ rest) row (Own (at + i)) ≡ slice_index_or row (carried_before cells i) Null
carried_value at [] rest row i from e = cc
carried_value at (Carry j ∷ cells) rest [] i from e = sym (no_value (carried_before (Carry j ∷ cells) i))
carried_value at (Carry j ∷ cells) rest (v ∷ row) zero from e = rw (same at) refl
carried_value at (Carry j ∷ cells) rest (v ∷ row) (suc i) from e =
    rw (other at i) (ap (λ n. value_in (carried_from (at + 1) cells ++ rest) row (Own n)) (sym (next_number at i)) ∙ carried_value (at + 1) cells rest row i from e)
carried_value at (Make up ∷ cells) rest row zero from e = cc
carried_value at (Make up ∷ cells) rest row (suc i) from e =
    ap (λ n. value_in (carried_from (at + 1) cells ++ rest) row (Own n)) (sym (next_number at i)) ∙ carried_value (at + 1) cells rest row i from e
carried_value at (Still x ∷ cells) rest row zero from e = cc
carried_value at (Still x ∷ cells) rest row (suc i) from e =
    ap (λ n. value_in (carried_from (at + 1) cells ++ rest) row (Own n)) (sym (next_number at i)) ∙ carried_value (at + 1) cells rest row i from e

carried_skipped : (at : ℕ) (cells : List Cell) (rest : List Place) (row : List Value) (i : ℕ) → value_in (carried_from at cells ++ rest) row (Shadow i) ≡ value_in rest (drop (length (filter is_carry cells)) row) (Shadow i)
carried_skipped at [] rest row i = refl
carried_skipped at (Carry j ∷ cells) rest [] i = sym (nothing_in rest (Shadow i))
carried_skipped at (Carry j ∷ cells) rest (v ∷ row) i = carried_skipped (at + 1) cells rest row i
carried_skipped at (Make up ∷ cells) rest row i = carried_skipped (at + 1) cells rest row i
carried_skipped at (Still x ∷ cells) rest row i = carried_skipped (at + 1) cells rest row i

shadow_value : (at : ℕ) (cells : List Cell) (rest : List Place) (row : List Value) (i : ℕ) (cell : Cell) → slice_get cells i ≡ Some cell → is_shadow cell ≡ true → value_in (shadows_from at cells ++ rest) row (Shadow (at + i)) ≡ slice_index_or row (shadows_before cells i) Null
shadow_value at [] rest row i cell e h = cc
shadow_value at (Carry j ∷ cells) rest row zero cell e h = let is : Carry j ≡ cell = cc in absurd (cc)
shadow_value at (Carry j ∷ cells) rest row (suc i) cell e h =
    ap (λ n. value_in (shadows_from (at + 1) cells ++ rest) row (Shadow n)) (sym (next_number at i)) ∙ shadow_value (at + 1) cells rest row i cell e h
shadow_value at (Make up ∷ cells) rest [] i cell e h = sym (no_value (shadows_before (Make up ∷ cells) i))
shadow_value at (Make up ∷ cells) rest (v ∷ row) zero cell e h = rw (same at) refl
shadow_value at (Make up ∷ cells) rest (v ∷ row) (suc i) cell e h =
    rw (other at i) (ap (λ n. value_in (shadows_from (at + 1) cells ++ rest) row (Shadow n)) (sym (next_number at i)) ∙ shadow_value (at + 1) cells rest row i cell e h)
shadow_value at (Still x ∷ cells) rest [] i cell e h = sym (no_value (shadows_before (Still x ∷ cells) i))
shadow_value at (Still x ∷ cells) rest (v ∷ row) zero cell e h = rw (same at) refl
shadow_value at (Still x ∷ cells) rest (v ∷ row) (suc i) cell e h =
    rw (other at i) (ap (λ n. value_in (shadows_from (at + 1) cells ++ rest) row (Shadow n)) (sym (next_number at i)) ∙ shadow_value (at + 1) cells rest row i cell e h)

-- ---- lengths

own_long : (at : ℕ) (cells : List Cell) → length (own_from at cells) ≡ length cells
own_long at [] = refl
own_long at (cell ∷ cells) = ap suc (own_long (at + 1) cells)

shadows_long : (at : ℕ) (cells : List Cell) → length (shadows_from at cells) ≡ length (filter is_shadow cells)
shadows_long at [] = refl
shadows_long at (Carry j ∷ cells) = shadows_long (at + 1) cells
shadows_long at (Make up ∷ cells) = ap suc (shadows_long (at + 1) cells)
shadows_long at (Still x ∷ cells) = ap suc (shadows_long (at + 1) cells)

-- ---- whole rows, by what stands in each place

-- each of these cells' old columns has, by f, its value in the row
abbrev Owns : (Place → Value) → ℕ → List Cell → List Value → Type 0
Owns f at cells row = (i : ℕ) → i < length cells → f (Own (at + i)) ≡ slice_index_or row i Null

owns_rest : (f : Place → Value) (at : ℕ) (cell : Cell) (cells : List Cell) (v : Value) (row : List Value) → Owns f at (cell ∷ cells) (v ∷ row) → Owns f (at + 1) cells row
owns_rest f at cell cells v row owns i few = ap (λ n. f (Own n)) (next_number at i) ∙ owns (suc i) (omega arith)

owns_first : (f : Place → Value) (at : ℕ) (cell : Cell) (cells : List Cell) (v : Value) (row : List Value) → Owns f at (cell ∷ cells) (v ∷ row) → f (Own at) ≡ v
owns_first f at cell cells v row owns = ap (λ n. f (Own n)) (sym (add-zero at)) ∙ owns 0 (omega arith)

own_row : (f : Place → Value) (at : ℕ) (cells : List Cell) (row : List Value) → length cells ≤ length row → Owns f at cells row → take (length cells) row ≡ map f (own_from at cells)
own_row f at [] row wide owns = refl
own_row f at (cell ∷ cells) [] wide owns = absurd (omega arith)
own_row f at (cell ∷ cells) (v ∷ row) wide owns =
    let here = owns_first f at cell cells v row owns in
    let there = own_row f (at + 1) cells row (omega arith) (owns_rest f at cell cells v row owns) in
    rw (here, there) refl

carried_row : (f : Place → Value) (at : ℕ) (cells : List Cell) (row : List Value) → length cells ≤ length row → Owns f at cells row → carried_values cells row ≡ map f (carried_from at cells)
carried_row f at [] row wide owns = refl
carried_row f at (cell ∷ cells) [] wide owns = absurd (omega arith)
carried_row f at (Carry j ∷ cells) (v ∷ row) wide owns =
    let here = owns_first f at (Carry j) cells v row owns in
    let there = carried_row f (at + 1) cells row (omega arith) (owns_rest f at (Carry j) cells v row owns) in
    rw (here, there) refl
carried_row f at (Make up ∷ cells) (v ∷ row) wide owns = carried_row f (at + 1) cells row (omega arith) (owns_rest f at (Make up) cells v row owns)
carried_row f at (Still x ∷ cells) (v ∷ row) wide owns = carried_row f (at + 1) cells row (omega arith) (owns_rest f at (Still x) cells v row owns)

-- each of these cells' new columns that aren't carried has, by f, its value among these
abbrev Shadows : (Place → Value) → (ℕ → Value) → ℕ → ℕ → List Cell → Type 0
Shadows f g at next cells = (i : ℕ) (cell : Cell) → slice_get cells i ≡ Some cell → is_shadow cell ≡ true → f (Shadow (at + i)) ≡ g (next + shadows_before cells i)

shadows_behind : (f : Place → Value) (g : ℕ → Value) (at next j : ℕ) (cells : List Cell) → Shadows f g at next (Carry j ∷ cells) → Shadows f g (at + 1) next cells
shadows_behind f g at next j cells own i cell e h = ap (λ n. f (Shadow n)) (next_number at i) ∙ own (suc i) cell e h

shadow_first : (f : Place → Value) (g : ℕ → Value) (at next : ℕ) (cell : Cell) (cells : List Cell) → is_shadow cell ≡ true → Shadows f g at next (cell ∷ cells) → f (Shadow at) ≡ g next
shadow_first f g at next cell cells h own = ap (λ n. f (Shadow n)) (sym (add-zero at)) ∙ own 0 cell refl h ∙ ap g (add-zero next)

shadows_rest : (f : Place → Value) (g : ℕ → Value) (at next : ℕ) (cell : Cell) (cells : List Cell) → is_shadow cell ≡ true → Shadows f g at next (cell ∷ cells) → Shadows f g (at + 1) (next + 1) cells
shadows_rest f g at next cell cells h own i other e k =
    let one_more : shadows_before (cell ∷ cells) (suc i) ≡ suc (shadows_before cells i) = rw h refl in
    let place : next + shadows_before (cell ∷ cells) (suc i) ≡ next + 1 + shadows_before cells i = omega (arith, one_more) in
    ap (λ n. f (Shadow n)) (next_number at i) ∙ own (suc i) other e k ∙ ap g place

shadow_row : (f : Place → Value) (at : ℕ) (cells : List Cell) (row : List Value) → length (filter is_shadow cells) ≤ length row → Shadows f (λ n. slice_index_or row n Null) at 0 cells → take (length (filter is_shadow cells)) row ≡ map f (shadows_from at cells)
shadow_row f at cells row wide own = by_values at cells row wide (λ i cell e h. own i cell e h ∙ ap (λ n. slice_index_or row n Null) (zero-add (shadows_before cells i)))
  where
    by_values : (at : ℕ) (cells : List Cell) (row : List Value) → length (filter is_shadow cells) ≤ length row → ((i : ℕ) (cell : Cell) → slice_get cells i ≡ Some cell → is_shadow cell ≡ true → f (Shadow (at + i)) ≡ slice_index_or row (shadows_before cells i) Null) → take (length (filter is_shadow cells)) row ≡ map f (shadows_from at cells)
    by_values at [] row wide own = refl
    by_values at (Carry j ∷ cells) row wide own = by_values (at + 1) cells row wide (λ i cell e h. ap (λ n. f (Shadow n)) (next_number at i) ∙ own (suc i) cell e h)
    by_values at (Make up ∷ cells) [] wide own = absurd (omega arith)
    by_values at (Make up ∷ cells) (v ∷ row) wide own =
        let here : f (Shadow at) ≡ v = ap (λ n. f (Shadow n)) (sym (add-zero at)) ∙ own 0 (Make up) refl refl in
        let there = by_values (at + 1) cells row (omega arith) (λ i cell e h. ap (λ n. f (Shadow n)) (next_number at i) ∙ own (suc i) cell e h) in
        rw (here, there) refl
    by_values at (Still x ∷ cells) [] wide own = absurd (omega arith)
    by_values at (Still x ∷ cells) (v ∷ row) wide own =
        let here : f (Shadow at) ≡ v = ap (λ n. f (Shadow n)) (sym (add-zero at)) ∙ own 0 (Still x) refl refl in
        let there = by_values (at + 1) cells row (omega arith) (λ i cell e h. ap (λ n. f (Shadow n)) (next_number at i) ∙ own (suc i) cell e h) in
        rw (here, there) refl

-- The places that a view selects, where a carried column has this number among the values.
module _ (select : ℕ → List Cell → List ℕ) (number : ℕ → ℕ) (none : (next : ℕ) → select next [] ≡ []) (carry : (next j : ℕ) (cells : List Cell) → select next (Carry j ∷ cells) ≡ number j ∷ select next cells) (shadow : (next : ℕ) (cell : Cell) (cells : List Cell) → is_shadow cell ≡ true → select next (cell ∷ cells) ≡ next ∷ select (next + 1) cells) where
  selected : (f : Place → Value) (g : ℕ → Value) (at next : ℕ) (cells : List Cell) → ((i j : ℕ) → slice_get cells i ≡ Some (Carry j) → f (Own j) ≡ g (number j)) → Shadows f g at next cells → map g (select next cells) ≡ map f (new_from at cells)
  selected f g at next [] carried own = ap (map g) (none next)
  selected f g at next (Carry j ∷ cells) carried own =
      let here = carried 0 j refl in
      let there = selected f g (at + 1) next cells (λ i k e. carried (suc i) k e) (shadows_behind f g at next j cells own) in
      ap (map g) (carry next j cells) ∙ rw (here, there) refl
  selected f g at next (Make up ∷ cells) carried own =
      let here = shadow_first f g at next (Make up) cells refl own in
      let there = selected f g (at + 1) (next + 1) cells (λ i k e. carried (suc i) k e) (shadows_rest f g at next (Make up) cells refl own) in
      ap (map g) (shadow next (Make up) cells refl) ∙ rw (here, there) refl
  selected f g at next (Still x ∷ cells) carried own =
      let here = shadow_first f g at next (Still x) cells refl own in
      let there = selected f g (at + 1) (next + 1) cells (λ i k e. carried (suc i) k e) (shadows_rest f g at next (Still x) cells refl own) in
      ap (map g) (shadow next (Still x) cells refl) ∙ rw (here, there) refl

-- ---- a row of both versions

record IsWide (pair : Pair) (row : List Value) : Type 0 where
  old : length pair.lens.old_cols ≤ length row
  shadow : length (filter is_shadow pair.lens.new_cols) ≤ length (drop (length pair.lens.old_cols) row)

is_wide : (pair : Pair) (row : List Value) → length row ≡ length (paired_places pair) → IsWide pair row
is_wide pair row long =
    let old_cols = pair.lens.old_cols in
    let mark = mark_places pair.layout.mark in
    let outer = length-append (old_places old_cols) (shadow_places pair.lens.new_cols ++ mark) in
    let inner = length-append (shadow_places pair.lens.new_cols) mark in
    let own = own_long 0 old_cols in
    let shadow = shadows_long 0 pair.lens.new_cols in
    record { old = omega arith; shadow = omega (arith, length-drop (length old_cols) row) }

paired_owns : (pair : Pair) (row : List Value) → Owns (value_in (paired_places pair) row) 0 pair.lens.old_cols row
paired_owns pair row = own_value 0 pair.lens.old_cols (shadow_places pair.lens.new_cols ++ mark_places pair.layout.mark) row

paired_shadows : (pair : Pair) (row : List Value) → Shadows (value_in (paired_places pair) row) (λ n. slice_index_or (drop (length pair.lens.old_cols) row) n Null) 0 0 pair.lens.new_cols
paired_shadows pair row i cell e h =
    let mark = mark_places pair.layout.mark in
    let behind = drop (length pair.lens.old_cols) row in
    own_skipped 0 pair.lens.old_cols (shadow_places pair.lens.new_cols ++ mark) row (0 + i)
    ∙ shadow_value 0 pair.lens.new_cols mark behind i cell e h
    ∙ ap (λ n. slice_index_or behind n Null) (sym (zero-add (shadows_before pair.lens.new_cols i)))

-- ---- the steps

pub removing_keeps_places : KeepsPlaces 2 paired_places trimmed_row_places
removing_keeps_places pair row p long =
    let lens = pair.lens in
    let f = value_in (paired_places pair) row in
    let wide = is_wide pair row long in
    let carried = carried_row f 0 lens.old_cols row wide.old (paired_owns pair row) in
    let shadows = shadow_row f 0 lens.new_cols (drop (length lens.old_cols) row) wide.shadow (paired_shadows pair row) in
    ap (λ values. values ++ shadows_in lens row) carried ∙ ap (λ values. map f (carried_places lens.old_cols) ++ values) shadows ∙ sym (map-append f (carried_places lens.old_cols) (shadow_places lens.new_cols))

pub rolling_back_keeps_places : PairsAreLong → KeepsPlaces 5 paired_places rolled_back_places
rolling_back_keeps_places lengths pair row p long =
    ap (λ n. take n row) (sym (lengths pair p).0) ∙ own_row (value_in (paired_places pair) row) 0 pair.lens.old_cols row (is_wide pair row long).old (paired_owns pair row)

-- a carried column's cell says that it is carried
pub carried_back : (pair : Pair) → IsPair pair → (i j : ℕ) → slice_get pair.lens.new_cols i ≡ Some (Carry j) → slice_get pair.lens.old_cols j ≡ Some (Carry i)
carried_back pair p i j e = carried_cell pair.lens.old_cols j i (sym (p.lens.both_ways i j) ∙ carry_carries pair.lens.new_cols i j e)

pub ordering_keeps_places : KeepsPlaces 3 trimmed_row_places completed_places
ordering_keeps_places pair row p long =
    let lens = pair.lens in
    let shadow = shadow_places lens.new_cols in
    let count = length (filter is_carry lens.old_cols) in
    let f = value_in (trimmed_row_places pair) row in
    let carried : (i j : ℕ) → slice_get lens.new_cols i ≡ Some (Carry j) → f (Own j) ≡ slice_index_or row (carried_before lens.old_cols j) Null = λ i j e.
    ap (λ n. f (Own n)) (sym (zero-add j)) ∙ carried_value 0 lens.old_cols shadow row j i (carried_back pair p i j e) in
    let own : Shadows f (λ n. slice_index_or row n Null) 0 count lens.new_cols = λ i cell e h.
    carried_skipped 0 lens.old_cols shadow row (0 + i) ∙ ap (λ places. value_in places (drop count row) (Shadow (0 + i))) (sym (append-nil shadow)) ∙ shadow_value 0 lens.new_cols [] (drop count row) i cell e h ∙ get_or-drop count row (shadows_before lens.new_cols i) Null in
    selected (trimmed_places lens.old_cols) (carried_before lens.old_cols) (λ next. refl) (λ next j cells. refl) (trimmed_shadow lens.old_cols) f (λ n. slice_index_or row n Null) 0 count lens.new_cols carried own
  where
    trimmed_shadow : (old_cols : List Cell) (next : ℕ) (cell : Cell) (cells : List Cell) → is_shadow cell ≡ true → trimmed_places old_cols next (cell ∷ cells) ≡ next ∷ trimmed_places old_cols (next + 1) cells
    trimmed_shadow old_cols next (Carry j) cells h = cc
    trimmed_shadow old_cols next (Make up) cells h = refl
    trimmed_shadow old_cols next (Still x) cells h = refl

-- ---- the views

pub old_view_selects : PairsAreLong → Selects old_view rolled_back_places
old_view_selects lengths pair row p long = rolling_back_keeps_places lengths pair row p long

pub new_view_selects : PairsAreLong → Selects new_view completed_places
new_view_selects lengths pair row p long =
    let lens = pair.lens in
    let f = value_in (paired_places pair) row in
    let g : ℕ → Value = λ n. slice_index_or row n Null in
    let carried : (i j : ℕ) → slice_get lens.new_cols i ≡ Some (Carry j) → f (Own j) ≡ g j = λ i j e.
    ap (λ n. f (Own n)) (sym (zero-add j)) ∙ paired_owns pair row j (slice_get_within lens.old_cols j (Carry i) (carried_back pair p i j e)) in
    let own : Shadows f g 0 (length lens.old_cols) lens.new_cols = λ i cell e h.
    paired_shadows pair row i cell e h ∙ get_or-drop (length lens.old_cols) row (0 + shadows_before lens.new_cols i) Null ∙ ap (λ n. g (length lens.old_cols + n)) (zero-add (shadows_before lens.new_cols i)) in
    ap (λ n. map g (places n lens.new_cols)) (sym (lengths pair p).0) ∙ selected places (λ j. j) (λ next. refl) (λ next j cells. refl) paired_shadow f g 0 (length lens.old_cols) lens.new_cols carried own
  where
    paired_shadow : (next : ℕ) (cell : Cell) (cells : List Cell) → is_shadow cell ≡ true → places next (cell ∷ cells) ≡ next ∷ places (next + 1) cells
    paired_shadow next (Carry j) cells h = cc
    paired_shadow next (Make up) cells h = refl
    paired_shadow next (Still x) cells h = refl

-- ---- the layout

-- columns from this one on
abbrev From : List Column → ℕ → List Column → Type 0
From all at columns = (i : ℕ) → slice_get all (at + i) ≡ slice_get columns i

from_rest : (all : List Column) (at : ℕ) (column : Column) (columns : List Column) → From all at (column ∷ columns) → From all (at + 1) columns
from_rest all at column columns from i = ap (slice_get all) (next_number at i) ∙ from (suc i)

from_first : (all : List Column) (at : ℕ) (column : Column) (columns : List Column) → From all at (column ∷ columns) → slice_get all at ≡ Some column
from_first all at column columns from = ap (slice_get all) (sym (add-zero at)) ∙ from 0

old_named : (pair : Pair) (at : ℕ) (cells : List Cell) (columns : List Column) → length cells ≡ length columns → From pair.old.columns at columns → map (named pair) (own_from at cells) ≡ map Some (map place_of columns)
old_named pair at [] [] len from = refl
old_named pair at [] (c ∷ cs) len from = absurd (omega arith)
old_named pair at (cell ∷ cells) [] len from = absurd (omega arith)
old_named pair at (cell ∷ cells) (c ∷ cs) len from =
    let here = ap (option_map place_of) (from_first pair.old.columns at c cs from) in
    let there = old_named pair (at + 1) cells cs (omega arith) (from_rest pair.old.columns at c cs from) in
    rw (here, there) refl

shadows_named : (pair : Pair) (at : ℕ) (cells : List Cell) (columns : List Column) → length cells ≡ length columns → From pair.new.columns at columns → map (named pair) (shadows_from at cells) ≡ map Some (shadows columns cells)
shadows_named pair at [] [] len from = refl
shadows_named pair at [] (c ∷ cs) len from = absurd (omega arith)
shadows_named pair at (cell ∷ cells) [] len from = absurd (omega arith)
shadows_named pair at (Carry j ∷ cells) (c ∷ cs) len from = shadows_named pair (at + 1) cells cs (omega arith) (from_rest pair.new.columns at c cs from)
shadows_named pair at (Make up ∷ cells) (c ∷ cs) len from =
    let here = ap (option_map shadow_named) (from_first pair.new.columns at c cs from) in
    let there = shadows_named pair (at + 1) cells cs (omega arith) (from_rest pair.new.columns at c cs from) in
    rw (here, there) refl
shadows_named pair at (Still x ∷ cells) (c ∷ cs) len from =
    let here = ap (option_map shadow_named) (from_first pair.new.columns at c cs from) in
    let there = shadows_named pair (at + 1) cells cs (omega arith) (from_rest pair.new.columns at c cs from) in
    rw (here, there) refl

carried_named : (pair : Pair) (at : ℕ) (cells : List Cell) (columns : List Column) → length cells ≡ length columns → From pair.old.columns at columns → map (named pair) (carried_from at cells) ≡ map Some (carried_columns columns cells)
carried_named pair at [] [] len from = refl
carried_named pair at [] (c ∷ cs) len from = absurd (omega arith)
carried_named pair at (cell ∷ cells) [] len from = absurd (omega arith)
carried_named pair at (Carry j ∷ cells) (c ∷ cs) len from =
    let here = ap (option_map place_of) (from_first pair.old.columns at c cs from) in
    let there = carried_named pair (at + 1) cells cs (omega arith) (from_rest pair.old.columns at c cs from) in
    rw (here, there) refl
carried_named pair at (Make up ∷ cells) (c ∷ cs) len from = carried_named pair (at + 1) cells cs (omega arith) (from_rest pair.old.columns at c cs from)
carried_named pair at (Still x ∷ cells) (c ∷ cs) len from = carried_named pair (at + 1) cells cs (omega arith) (from_rest pair.old.columns at c cs from)

mark_named : (pair : Pair) (mark : Bool) → map (named pair) (mark_places mark) ≡ map Some (mark_place mark)
mark_named pair true = refl
mark_named pair false = refl

pub places_are_the_layouts : PairsAreLong → PlacesAreTheLayouts
places_are_the_layouts lengths pair p =
    let lens = pair.lens in
    let mark = pair.layout.mark in
    let own = map place_of pair.old.columns in
    let more = shadows pair.new.columns lens.new_cols in
    let old = old_named pair 0 lens.old_cols pair.old.columns (lengths pair p).0 (λ i. ap (slice_get pair.old.columns) (zero-add i)) in
    let new = shadows_named pair 0 lens.new_cols pair.new.columns (lengths pair p).1 (λ i. ap (slice_get pair.new.columns) (zero-add i)) in
    let columns : own ++ more ++ mark_place mark ≡ pair.layout.columns = ap (λ m. own ++ more ++ mark_place m) (ap (λ l. l.mark) p.layout) ∙ sym (ap (λ l. l.columns) p.layout) in
    let behind : map (named pair) (shadow_places lens.new_cols ++ mark_places mark) ≡ map Some (more ++ mark_place mark) = map-append (named pair) (shadow_places lens.new_cols) (mark_places mark) ∙ ap (λ xs. xs ++ map (named pair) (mark_places mark)) new ∙ ap (λ xs. map Some more ++ xs) (mark_named pair mark) ∙ sym (map-append Some more (mark_place mark)) in
    map-append (named pair) (old_places lens.old_cols) (shadow_places lens.new_cols ++ mark_places mark)
    ∙ ap (λ xs. xs ++ map (named pair) (shadow_places lens.new_cols ++ mark_places mark)) old
    ∙ ap (λ xs. map Some own ++ xs) behind
    ∙ sym (map-append Some own (more ++ mark_place mark))
    ∙ ap (map Some) (sym (append_assoc own more (mark_place mark)) ∙ columns)

pub trimmed_places_are_the_columns : PairsAreLong → TrimmedPlacesAreTheColumns
trimmed_places_are_the_columns lengths pair p =
    let lens = pair.lens in
    let own = carried_columns pair.old.columns lens.old_cols in
    let more = shadows pair.new.columns lens.new_cols in
    let old = carried_named pair 0 lens.old_cols pair.old.columns (lengths pair p).0 (λ i. ap (slice_get pair.old.columns) (zero-add i)) in
    let new = shadows_named pair 0 lens.new_cols pair.new.columns (lengths pair p).1 (λ i. ap (slice_get pair.new.columns) (zero-add i)) in
    map-append (named pair) (carried_places lens.old_cols) (shadow_places lens.new_cols)
    ∙ ap (λ xs. xs ++ map (named pair) (shadow_places lens.new_cols)) old
    ∙ ap (λ xs. map Some own ++ xs) new
    ∙ sym (map-append Some own more)
