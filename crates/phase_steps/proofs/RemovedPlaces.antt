-- Of the places before it C2 leaves those that the new version's view selects, and B2 those that the old version's view selects.
use Rattle.std.proofs.Common.{◌≡◌, ◌∙◌, ◌<◌, ℕ, zero, suc, ◌+◌, List, [], ◌∷◌, ◌++◌, Bool, true, false, ◌||◌, Some, length, zero-add, add-zero, append-nil, ap, refl, sym, arith}
use Rattle.std.specs.Prelude.{◌==◌, filter, slice_get}
use Rattle.std.proofs.lemmas.Bool.Decides.{nat_tests}
use Rattle.std.proofs.lemmas.List.Elements.{filter-append}
use Rattle.mig_lens.specs.declared.columns.Cell.{Cell}
use Rattle.mig_lens.specs.declared.columns.Cell.TheVariants.{Carry, Make, Still}
use Rattle.mig_lens.specs.Lens.{carries, is_carry}
use Rattle.trigger_pair.specs.declared.pairs.Pair.{Pair}
use Rattle.trigger_pair.specs.Laws.{IsPair}
use Rattle.phase_steps.specs.Laws.{Leaves}
use Rattle.phase_steps.specs.Places.{Mark, Own, Place, Shadow, carried_places, completed_places, is_among, mark_places, old_places, paired_places, rolled_back_places, shadow_places, trimmed_row_places}
use Rattle.phase_steps.specs.Rows.{is_shadow}
use Rattle.phase_steps.proofs.KeptPlaces.{carried_from, new_from, next_number, other, own_from, same, shadows_from}
use Rattle.phase_steps.proofs.WrittenRows.{carried_cell, carry_carries}

-- ---- which places the new version's view selects

or_right : (a b : Bool) → b ≡ true → (a || b) ≡ true
or_right true b h = refl
or_right false b h = h

selects_own : (at : ℕ) (cells : List Cell) (i j : ℕ) → slice_get cells i ≡ Some (Carry j) → is_among (new_from at cells) (Own j) ≡ true
selects_own at [] i j e = cc
selects_own at (Carry k ∷ cells) zero j e = let is : (k == j) ≡ true = grind (arith, nat_tests) in rw is refl
selects_own at (Make up ∷ cells) zero j e = cc
selects_own at (Still x ∷ cells) zero j e = cc
selects_own at (Carry k ∷ cells) (suc i) j e = or_right (k == j) (is_among (new_from (at + 1) cells) (Own j)) (selects_own (at + 1) cells i j e)
selects_own at (Make up ∷ cells) (suc i) j e = selects_own (at + 1) cells i j e
selects_own at (Still x ∷ cells) (suc i) j e = selects_own (at + 1) cells i j e

passes_own : (at : ℕ) (cells : List Cell) (j : ℕ) → ((i : ℕ) → carries cells i j ≡ false) → is_among (new_from at cells) (Own j) ≡ false
passes_own at [] j h = refl
passes_own at (Carry k ∷ cells) j h = rw (h 0) (passes_own (at + 1) cells j (λ i. h (suc i)))
passes_own at (Make up ∷ cells) j h = passes_own (at + 1) cells j (λ i. h (suc i))
passes_own at (Still x ∷ cells) j h = passes_own (at + 1) cells j (λ i. h (suc i))

selects_shadow : (at : ℕ) (cells : List Cell) (i : ℕ) (cell : Cell) → slice_get cells i ≡ Some cell → is_shadow cell ≡ true → is_among (new_from at cells) (Shadow (at + i)) ≡ true
selects_shadow at [] i cell e h = cc
selects_shadow at (Carry j ∷ cells) zero cell e h = cc
selects_shadow at (Carry j ∷ cells) (suc i) cell e h =
    ap (λ n. is_among (new_from (at + 1) cells) (Shadow n)) (sym (next_number at i)) ∙ selects_shadow (at + 1) cells i cell e h
selects_shadow at (Make up ∷ cells) zero cell e h = rw (same at) refl
selects_shadow at (Make up ∷ cells) (suc i) cell e h =
    rw (other at i) (ap (λ n. is_among (new_from (at + 1) cells) (Shadow n)) (sym (next_number at i)) ∙ selects_shadow (at + 1) cells i cell e h)
selects_shadow at (Still x ∷ cells) zero cell e h = rw (same at) refl
selects_shadow at (Still x ∷ cells) (suc i) cell e h =
    rw (other at i) (ap (λ n. is_among (new_from (at + 1) cells) (Shadow n)) (sym (next_number at i)) ∙ selects_shadow (at + 1) cells i cell e h)

passes_mark : (at : ℕ) (cells : List Cell) → is_among (new_from at cells) Mark ≡ false
passes_mark at [] = refl
passes_mark at (Carry j ∷ cells) = passes_mark (at + 1) cells
passes_mark at (Make up ∷ cells) = passes_mark (at + 1) cells
passes_mark at (Still x ∷ cells) = passes_mark (at + 1) cells

-- ---- which places the old version's view selects

own_selects : (at : ℕ) (cells : List Cell) (i : ℕ) → i < length cells → is_among (own_from at cells) (Own (at + i)) ≡ true
own_selects at [] i few = absurd (omega arith)
own_selects at (cell ∷ cells) zero few = rw (same at) refl
own_selects at (cell ∷ cells) (suc i) few =
    rw (other at i) (ap (λ n. is_among (own_from (at + 1) cells) (Own n)) (sym (next_number at i)) ∙ own_selects (at + 1) cells i (omega arith))

own_passes_shadow : (at : ℕ) (cells : List Cell) (i : ℕ) → is_among (own_from at cells) (Shadow i) ≡ false
own_passes_shadow at [] i = refl
own_passes_shadow at (cell ∷ cells) i = own_passes_shadow (at + 1) cells i

own_passes_mark : (at : ℕ) (cells : List Cell) → is_among (own_from at cells) Mark ≡ false
own_passes_mark at [] = refl
own_passes_mark at (cell ∷ cells) = own_passes_mark (at + 1) cells

-- ---- places that are left

left_carried : (keep : Place → Bool) (at : ℕ) (cells : List Cell) → ((i : ℕ) (cell : Cell) → slice_get cells i ≡ Some cell → keep (Own (at + i)) ≡ is_carry cell) → filter keep (own_from at cells) ≡ carried_from at cells
left_carried keep at [] h = refl
left_carried keep at (cell ∷ cells) h = by_cell cell (ap (λ n. keep (Own n)) (sym (add-zero at)) ∙ h 0 cell refl) (left_carried keep (at + 1) cells (λ i other e. ap (λ n. keep (Own n)) (next_number at i) ∙ h (suc i) other e))
  where
    by_cell : (cell : Cell) → keep (Own at) ≡ is_carry cell → filter keep (own_from (at + 1) cells) ≡ carried_from (at + 1) cells → filter keep (own_from at (cell ∷ cells)) ≡ carried_from at (cell ∷ cells)
    by_cell (Carry j) is rest = rw (is, rest) refl
    by_cell (Make up) is rest = rw is rest
    by_cell (Still x) is rest = rw is rest

left_own : (keep : Place → Bool) (at : ℕ) (cells : List Cell) → ((i : ℕ) → i < length cells → keep (Own (at + i)) ≡ true) → filter keep (own_from at cells) ≡ own_from at cells
left_own keep at [] h = refl
left_own keep at (cell ∷ cells) h =
    let here : keep (Own at) ≡ true = ap (λ n. keep (Own n)) (sym (add-zero at)) ∙ h 0 (omega arith) in
    let rest = left_own keep (at + 1) cells (λ i few. ap (λ n. keep (Own n)) (next_number at i) ∙ h (suc i) (omega arith)) in
    rw (here, rest) refl

left_shadows : (keep : Place → Bool) (at : ℕ) (cells : List Cell) → ((i : ℕ) (cell : Cell) → slice_get cells i ≡ Some cell → is_shadow cell ≡ true → keep (Shadow (at + i)) ≡ true) → filter keep (shadows_from at cells) ≡ shadows_from at cells
left_shadows keep at [] h = refl
left_shadows keep at (Carry j ∷ cells) h = left_shadows keep (at + 1) cells (λ i cell e k. ap (λ n. keep (Shadow n)) (next_number at i) ∙ h (suc i) cell e k)
left_shadows keep at (Make up ∷ cells) h =
    let here : keep (Shadow at) ≡ true = ap (λ n. keep (Shadow n)) (sym (add-zero at)) ∙ h 0 (Make up) refl refl in
    let rest = left_shadows keep (at + 1) cells (λ i cell e k. ap (λ n. keep (Shadow n)) (next_number at i) ∙ h (suc i) cell e k) in
    rw (here, rest) refl
left_shadows keep at (Still x ∷ cells) h =
    let here : keep (Shadow at) ≡ true = ap (λ n. keep (Shadow n)) (sym (add-zero at)) ∙ h 0 (Still x) refl refl in
    let rest = left_shadows keep (at + 1) cells (λ i cell e k. ap (λ n. keep (Shadow n)) (next_number at i) ∙ h (suc i) cell e k) in
    rw (here, rest) refl

no_shadows : (keep : Place → Bool) (at : ℕ) (cells : List Cell) → ((i : ℕ) → keep (Shadow i) ≡ false) → filter keep (shadows_from at cells) ≡ []
no_shadows keep at [] h = refl
no_shadows keep at (Carry j ∷ cells) h = no_shadows keep (at + 1) cells h
no_shadows keep at (Make up ∷ cells) h = rw (h at) (no_shadows keep (at + 1) cells h)
no_shadows keep at (Still x ∷ cells) h = rw (h at) (no_shadows keep (at + 1) cells h)

no_mark : (keep : Place → Bool) (mark : Bool) → keep Mark ≡ false → filter keep (mark_places mark) ≡ []
no_mark keep true h = rw h refl
no_mark keep false h = refl

-- What is left of the three parts.
left_of : (keep : Place → Bool) (pair : Pair) (own shadow : List Place) → filter keep (old_places pair.lens.old_cols) ≡ own → filter keep (shadow_places pair.lens.new_cols) ≡ shadow → keep Mark ≡ false → filter keep (paired_places pair) ≡ own ++ shadow
left_of keep pair own shadow a b c =
    let shadows = shadow_places pair.lens.new_cols in
    let mark = mark_places pair.layout.mark in
    let behind : filter keep (shadows ++ mark) ≡ shadow = filter-append keep shadows mark ∙ ap (λ ps. ps ++ filter keep mark) b ∙ ap (λ ps. shadow ++ ps) (no_mark keep pair.layout.mark c) ∙ append-nil shadow in
    filter-append keep (old_places pair.lens.old_cols) (shadows ++ mark) ∙ ap (λ ps. ps ++ filter keep (shadows ++ mark)) a ∙ ap (λ ps. own ++ ps) behind

-- ---- the laws

carried_is_selected : (pair : Pair) → IsPair pair → (j : ℕ) (cell : Cell) → slice_get pair.lens.old_cols j ≡ Some cell → is_among (completed_places pair) (Own (0 + j)) ≡ is_carry cell
carried_is_selected pair p j cell e = ap (λ n. is_among (completed_places pair) (Own n)) (zero-add j) ∙ by_cell cell e
  where
    not_carried : (i : ℕ) → carries pair.lens.old_cols j i ≡ false → carries pair.lens.new_cols i j ≡ false
    not_carried i h = p.lens.both_ways i j ∙ h

    by_cell : (cell : Cell) → slice_get pair.lens.old_cols j ≡ Some cell → is_among (completed_places pair) (Own j) ≡ is_carry cell
    by_cell (Carry i) is = selects_own 0 pair.lens.new_cols i j (carried_cell pair.lens.new_cols i j (p.lens.both_ways i j ∙ carry_carries pair.lens.old_cols j i is))
    by_cell (Make up) is = passes_own 0 pair.lens.new_cols j (λ i. not_carried i (rw is refl))
    by_cell (Still x) is = passes_own 0 pair.lens.new_cols j (λ i. not_carried i (rw is refl))

pub completing_leaves : Leaves trimmed_row_places completed_places
completing_leaves pair p =
    let keep = is_among (completed_places pair) in
    sym (left_of keep pair (carried_places pair.lens.old_cols) (shadow_places pair.lens.new_cols) (left_carried keep 0 pair.lens.old_cols (carried_is_selected pair p)) (left_shadows keep 0 pair.lens.new_cols (selects_shadow 0 pair.lens.new_cols)) (passes_mark 0 pair.lens.new_cols))

pub rolling_back_leaves : Leaves rolled_back_places rolled_back_places
rolling_back_leaves pair p =
    let keep = is_among (rolled_back_places pair) in
    let own = left_own keep 0 pair.lens.old_cols (own_selects 0 pair.lens.old_cols) in
    let shadow = no_shadows keep 0 pair.lens.new_cols (own_passes_shadow 0 pair.lens.old_cols) in
    sym (left_of keep pair (old_places pair.lens.old_cols) [] own shadow (own_passes_mark 0 pair.lens.old_cols) ∙ append-nil (old_places pair.lens.old_cols))
