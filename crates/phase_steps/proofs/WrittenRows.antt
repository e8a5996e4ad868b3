-- Rows that are written between C1 and C2 show what was written.
use Rattle.std.proofs.Common.{◌≡◌, ◌∙◌, ℕ, zero, suc, ◌+◌, List, [], ◌∷◌, ◌++◌, true, false, ◌&&◌, Option, Some, None, append_assoc, length, map, take, unwrap_or, ap, sym, subst, arith}
use Rattle.std.specs.List.{enumerate_from}
use Rattle.std.specs.Prelude.{◌==◌, slice_get, slice_index_or}
use Rattle.std.proofs.lemmas.Bool.Decides.{nat_tests}
use Rattle.std.proofs.lemmas.List.{length-map, take_at}
use Rattle.std.proofs.lemmas.List.FromFn.{length-enumerate_from}
use Rattle.sql_base.specs.declared.values.Value.{Value}
use Rattle.sql_base.specs.declared.values.Value.TheVariants.{Null}
use Rattle.sql_base.specs.Laws.{row_long}
use Rattle.mig_lens.specs.declared.columns.Cell.{Cell}
use Rattle.mig_lens.specs.declared.columns.Cell.TheVariants.{Carry, Make, Still}
use Rattle.mig_lens.specs.Layout.{has_mark}
use Rattle.mig_lens.specs.Lens.{carries, is_carried_from}
use Rattle.trigger_pair.specs.declared.pairs.Pair.{Pair}
use Rattle.trigger_pair.specs.Laws.{Agree, Holds, IsPair, PairsAreLong, StoredRowsHold}
use Rattle.trigger_pair.specs.Stored.{mark_value, shadow_values, stored_row}
use Rattle.phase_steps.specs.Laws.{LeftRowsKeep, LeftRowsShow}
use Rattle.phase_steps.specs.Rows.{left_row, left_value, left_values}

cell_carried : (cell : Option Cell) (at : ℕ) → is_carried_from at cell ≡ true → cell ≡ Some (Carry at)
cell_carried None at e = cc
cell_carried (Some (Carry from)) at e = let same : from ≡ at = grind (arith, nat_tests) in ap (λ n. Some (Carry n)) same
cell_carried (Some (Make up)) at e = cc
cell_carried (Some (Still x)) at e = cc

-- A column that carries another one of the other side has a cell that says so.
pub carried_cell : (cells : List Cell) (i at : ℕ) → carries cells i at ≡ true → slice_get cells i ≡ Some (Carry at)
carried_cell cells i at e = cell_carried (slice_get cells i) at e

same_number : (n : ℕ) → (n == n) ≡ true
same_number n = grind (arith, nat_tests)

-- and the other way round
pub carry_carries : (cells : List Cell) (i at : ℕ) → slice_get cells i ≡ Some (Carry at) → carries cells i at ≡ true
carry_carries cells i at e = ap (is_carried_from at) e ∙ same_number at

left_at : (cells : List Cell) (values held : List Value) (k at i : ℕ) → slice_get cells at ≡ Some (Carry i) → slice_index_or (map (left_value values held) (enumerate_from k cells)) at Null ≡ slice_index_or values i Null
left_at [] values held k at i e = cc
left_at (cell ∷ cells) values held k zero i e = let same : cell ≡ Carry i = cc in ap (λ c. left_value values held (k, c)) same
left_at (cell ∷ cells) values held k (suc at) i e = left_at cells values held (k + 1) at i e

left_long : PairsAreLong → (pair : Pair) (values held : List Value) → IsPair pair → length (left_values pair.lens.old_cols values held) ≡ length pair.old.columns
left_long lengths pair values held p = length-map (enumerate_from 0 pair.lens.old_cols) (left_value values held) ∙ length-enumerate_from 0 pair.lens.old_cols ∙ (lengths pair p).0

pub left_rows_show : PairsAreLong → StoredRowsHold → LeftRowsShow
left_rows_show lengths holds pair values before p fit =
    let held : List Value = unwrap_or before [] in
    let old = left_values pair.lens.old_cols values held in
    let long = left_long lengths pair values held p in
    let agree : Agree pair old values = λ i at c. sym (left_at pair.lens.old_cols values held 0 at i (carried_cell pair.lens.old_cols at i (sym (p.lens.both_ways i at) ∙ c))) in
    let stored = holds pair old values false p long (row_long pair.new values fit) agree in
    let mark : pair.layout.mark ≡ has_mark pair.lens = ap (λ l. l.mark) p.layout in
    let is : stored_row pair old values false ≡ left_row pair.lens values before = ap (λ m. old ++ shadow_values pair.lens.new_cols values ++ mark_value m false) mark in
    let shown : Holds pair old values (pair.layout.mark && false) (left_row pair.lens values before) = subst (λ row. Holds pair old values (pair.layout.mark && false) row) is stored in
    (shown.new_shown, shown.long)

pub left_rows_keep : PairsAreLong → LeftRowsKeep
left_rows_keep lengths pair values before p =
    let old = left_values pair.lens.old_cols values (unwrap_or before []) in
    let shadow = shadow_values pair.lens.new_cols values in
    let mark = mark_value (has_mark pair.lens) false in
    ap (take (length pair.old.columns)) (append_assoc old shadow mark) ∙ take_at old (shadow ++ mark) (length pair.old.columns) (left_long lengths pair values (unwrap_or before []) p)
