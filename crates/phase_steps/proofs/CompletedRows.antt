-- Completing a migration changes nothing that the new version shows.
use Rattle.std.proofs.Common.{◌≡◌, ◌∙◌, ◌<◌, ◌≤◌, ℕ, zero, suc, ◌+◌, List, [], ◌∷◌, ◌++◌, Some, length, map, take, drop, add-zero, length-append, ap, refl, sym, arith}
use Rattle.std.specs.Prelude.{filter, slice_get, slice_index_or}
use Rattle.std.proofs.lemmas.List.{get_or-append-add, get_or-drop, get_or-take, length-map}
use Rattle.sql_base.specs.declared.values.Value.{Value}
use Rattle.sql_base.specs.declared.values.Value.TheVariants.{Null}
use Rattle.mig_lens.specs.declared.columns.Cell.{Cell}
use Rattle.mig_lens.specs.declared.columns.Cell.TheVariants.{Carry, Make, Still}
use Rattle.mig_lens.specs.Layout.{layout, mark_place, place_of, shadows}
use Rattle.mig_lens.specs.Lens.{is_carry}
use Rattle.trigger_pair.specs.declared.pairs.Pair.{Pair}
use Rattle.trigger_pair.specs.Laws.{IsPair, PairsAreLong}
use Rattle.trigger_pair.specs.Stored.{places}
use Rattle.phase_steps.specs.Laws.{CompletedRowsShow, TrimmingKeepsView}
use Rattle.phase_steps.specs.Rows.{carried_before, carried_values, is_shadow, shadows_in, trimmed, trimmed_places}
use Rattle.phase_steps.proofs.WrittenRows.{carried_cell, carry_carries}

-- ---- one selection, by the places before C2 and after it

shadow_step : (f g : ℕ → Value) (next behind count : ℕ) → ((k : ℕ) → k < suc count → g (behind + k) ≡ f (next + k)) → (g behind ≡ f next) × ((k : ℕ) → k < count → g (behind + 1 + k) ≡ f (next + 1 + k))
shadow_step f g next behind count same =
    let first = same 0 (omega arith) in
    let here : g behind ≡ f next = ap g (sym (add-zero behind)) ∙ first ∙ ap f (add-zero next) in
    let there : (k : ℕ) → k < count → g (behind + 1 + k) ≡ f (next + 1 + k) = λ k few.
    let left : behind + 1 + k ≡ behind + suc k = omega arith in
    let right : next + suc k ≡ next + 1 + k = omega arith in
    ap g left ∙ same (suc k) (omega arith) ∙ ap f right in
    (here, there)

same_selection : (f g : ℕ → Value) (old_cols : List Cell) (next behind : ℕ) (cells : List Cell) → ((i at : ℕ) → slice_get cells i ≡ Some (Carry at) → g (carried_before old_cols at) ≡ f at) → ((k : ℕ) → k < length (filter is_shadow cells) → g (behind + k) ≡ f (next + k)) → map g (trimmed_places old_cols behind cells) ≡ map f (places next cells)
same_selection f g old_cols next behind [] carried own = refl
same_selection f g old_cols next behind (Carry at ∷ cells) carried own =
    let here : g (carried_before old_cols at) ≡ f at = carried 0 at refl in
    let there = same_selection f g old_cols next behind cells (λ i j e. carried (suc i) j e) own in
    rw (here, there)
same_selection f g old_cols next behind (Make up ∷ cells) carried own =
    let step = shadow_step f g next behind (length (filter is_shadow cells)) own in
    let there = same_selection f g old_cols (next + 1) (behind + 1) cells (λ i j e. carried (suc i) j e) step.1 in
    rw (step.0, there)
same_selection f g old_cols next behind (Still x ∷ cells) carried own =
    let step = shadow_step f g next behind (length (filter is_shadow cells)) own in
    let there = same_selection f g old_cols (next + 1) (behind + 1) cells (λ i j e. carried (suc i) j e) step.1 in
    rw (step.0, there)

-- ---- carried values after C2

carried_long : (cells : List Cell) (row : List Value) → length cells ≤ length row → length (carried_values cells row) ≡ length (filter is_carry cells)
carried_long [] row few = refl
carried_long (cell ∷ cells) [] few = absurd (omega arith)
carried_long (Carry at ∷ cells) (v ∷ row) few = ap suc (carried_long cells row (omega arith))
carried_long (Make up ∷ cells) (v ∷ row) few = carried_long cells row (omega arith)
carried_long (Still x ∷ cells) (v ∷ row) few = carried_long cells row (omega arith)

-- A carried value stands behind the carried ones before it.
carried_read : (cells : List Cell) (row tail : List Value) (at i : ℕ) → length cells ≤ length row → slice_get cells at ≡ Some (Carry i) → slice_index_or (carried_values cells row ++ tail) (carried_before cells at) Null ≡ slice_index_or row at Null
carried_read [] row tail at i few e = cc
carried_read (cell ∷ cells) [] tail at i few e = absurd (omega arith)
carried_read (Carry from ∷ cells) (v ∷ row) tail zero i few e = refl
carried_read (Make up ∷ cells) (v ∷ row) tail zero i few e = cc
carried_read (Still x ∷ cells) (v ∷ row) tail zero i few e = cc
carried_read (Carry from ∷ cells) (v ∷ row) tail (suc at) i few e = carried_read cells row tail at i (omega arith) e
carried_read (Make up ∷ cells) (v ∷ row) tail (suc at) i few e = carried_read cells row tail at i (omega arith) e
carried_read (Still x ∷ cells) (v ∷ row) tail (suc at) i few e = carried_read cells row tail at i (omega arith) e

-- ---- shadow values after C2

shadow_read : (carried row : List Value) (count start k : ℕ) → k < count → slice_index_or (carried ++ take count (drop start row)) (length carried + k) Null ≡ slice_index_or row (start + k) Null
shadow_read carried row count start k few =
    get_or-append-add carried (take count (drop start row)) k Null ∙ get_or-take count (drop start row) k Null few ∙ get_or-drop start row k Null

-- ---- the laws

-- a stored row has a value for each old column
wide_enough : PairsAreLong → (pair : Pair) (row : List Value) → IsPair pair → length row ≡ length pair.layout.columns → length pair.lens.old_cols ≤ length row
wide_enough lengths pair row p long =
    let own = map place_of pair.old.columns in
    let more = shadows pair.new.columns pair.lens.new_cols in
    let last = mark_place (layout pair.old pair.new pair.lens).mark in
    let columns : length pair.layout.columns ≡ length (own ++ more ++ last) = ap (λ l. length l.columns) p.layout in
    let outer = length-append (own ++ more) last in
    let inner = length-append own more in
    let own_long = length-map pair.old.columns place_of in
    let old_cols_long = (lengths pair p).0 in
    omega arith

pub trimming_keeps_view : PairsAreLong → TrimmingKeepsView
trimming_keeps_view lengths pair row p long =
    let lens = pair.lens in
    let wide = wide_enough lengths pair row p long in
    let carried = carried_values lens.old_cols row in
    let count = carried_long lens.old_cols row wide in
    let carries_on : (i at : ℕ) → slice_get lens.new_cols i ≡ Some (Carry at) → slice_index_or (trimmed lens row) (carried_before lens.old_cols at) Null ≡ slice_index_or row at Null = λ i at e.
    carried_read lens.old_cols row (shadows_in lens row) at i wide (carried_cell lens.old_cols at i (sym (p.lens.both_ways i at) ∙ carry_carries lens.new_cols i at e)) in
    let shadowed : (k : ℕ) → k < length (filter is_shadow lens.new_cols) → slice_index_or (trimmed lens row) (length (filter is_carry lens.old_cols) + k) Null ≡ slice_index_or row (length pair.old.columns + k) Null = λ k few.
    ap (λ n. slice_index_or (trimmed lens row) (n + k) Null) (sym count) ∙ shadow_read carried row (length (filter is_shadow lens.new_cols)) (length lens.old_cols) k few ∙ ap (λ n. slice_index_or row (n + k) Null) (lengths pair p).0 in
    same_selection (λ at. slice_index_or row at Null) (λ at. slice_index_or (trimmed lens row) at Null) lens.old_cols (length pair.old.columns) (length (filter is_carry lens.old_cols)) lens.new_cols carries_on shadowed

pub completed_rows_show : PairsAreLong → CompletedRowsShow
completed_rows_show lengths pair row p long = trimming_keeps_view lengths pair row p long
