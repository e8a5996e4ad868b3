-- Halves that the lens makes of each other agree in what is carried; so do the values that a migration begins with.
use Rattle.std.proofs.Common.{◌≡◌, ◌∙◌, ◌<◌, ℕ, zero, suc, ◌+◌, List, [], ◌∷◌, true, false, ◌&&◌, ◌==◌, Option, Some, None, Ok, length, map, ap, refl, sym, subst, arith}
use Rattle.std.specs.Prelude.{slice_get, slice_index_or}
use Rattle.std.proofs.lemmas.Bool.Decides.{nat_tests}
use Rattle.std.proofs.lemmas.List.{length-map}
use Rattle.std.proofs.lemmas.Option.{slice_get_within}
use Rattle.std.specs.Option.{option_and_then, option_map}
use Rattle.sql_base.specs.declared.shapes.Column.{Column}
use Rattle.sql_base.specs.declared.shapes.Shape.{Shape}
use Rattle.sql_base.specs.declared.values.Ty.{Ty}
use Rattle.sql_base.specs.declared.values.Value.{Value}
use Rattle.sql_base.specs.declared.values.Value.TheVariants.{Null}
use Rattle.sql_base.specs.Fit.{row_fits}
use Rattle.sql_base.specs.Laws.{and_false, and_then_ok, and_true, both, row_long}
use Rattle.sql_base.specs.Outcome.{and_then, every}
use Rattle.mig_lens.specs.declared.columns.Cell.{Cell}
use Rattle.mig_lens.specs.declared.columns.Cell.TheVariants.{Carry}
use Rattle.mig_lens.specs.Lens.{backward, carries, cell_fits, cells_fit, forward, is_carried_from, is_of_type, made, outcomes, unfilled, unfilled_value, value_before}
use Rattle.mig_lens.specs.Laws.{BackwardCarries, ForwardCarries}
use Rattle.trigger_pair.specs.declared.pairs.Pair.{Pair}
use Rattle.trigger_pair.specs.Laws.{BegunRowsHold, FilledRowsHold, Holds, IsPair, NewWritesHold, OldWritesHold, PairsAreLong, StoredRowsHold}
use Rattle.trigger_pair.specs.Stored.{new_half, old_view, stored_row}
use Rattle.trigger_pair.proofs.Places.{Alike, holds}

-- ---- lengths

pub cells_long : (others columns : List Column) (cells : List Cell) → cells_fit others columns cells ≡ true → length cells ≡ length columns
cells_long others [] [] f = refl
cells_long others [] (cell ∷ cells) f = cc
cells_long others (c ∷ cs) [] f = cc
cells_long others (c ∷ cs) (cell ∷ cells) f = ap suc (cells_long others cs cells (both (cell_fits others c cell) (cells_fit others cs cells) f).1)

-- A half that is made has a value for each cell.
pub made_long : (other : Shape) (half : List Value) (previous : Option (List Value)) (at : ℕ) (cells : List Cell) (values : List Value) → every (outcomes other half previous at cells) ≡ Ok values → length values ≡ length cells
made_long other half previous at [] values e = let none : [] ≡ values = cc in ap length (sym none)
made_long other half previous at (cell ∷ cells) values e =
    let rest = every (outcomes other half previous (at + 1) cells) in
    let first = and_then_ok (made other half (value_before previous at) cell) (λ x. and_then rest (λ xs. Ok (x ∷ xs))) values e in
    let others = and_then_ok rest (λ xs. Ok (first.0 ∷ xs)) values first.2 in
    let all : first.0 ∷ others.0 ≡ values = cc in
    ap length (sym all) ∙ ap suc (made_long other half previous (at + 1) cells others.0 others.1)

-- ---- carried places

type_within : (others : List Column) (ty : Ty) (at : ℕ) (o : Option Column) → slice_get others at ≡ o → is_of_type ty o ≡ true → at < length others
type_within others ty at None e t = cc
type_within others ty at (Some c) e t = slice_get_within others at c e

-- A carried column's place is one of the other side.
pub carried_within : (others columns : List Column) (cells : List Cell) (i at : ℕ) → cells_fit others columns cells ≡ true → slice_get cells i ≡ Some (Carry at) → at < length others
carried_within others columns [] i at f e = cc
carried_within others [] (cell ∷ cells) i at f e = cc
carried_within others (c ∷ cs) (cell ∷ cells) zero at f e =
    let same : cell ≡ Carry at = cc in
    let fit = subst (λ x. cell_fits others c x ≡ true) same (both (cell_fits others c cell) (cells_fit others cs cells) f).0 in
    type_within others c.ty at (slice_get others at) refl fit
carried_within others (c ∷ cs) (cell ∷ cells) (suc i) at f e = carried_within others cs cells i at (both (cell_fits others c cell) (cells_fit others cs cells) f).1 e

same_number : (n : ℕ) → (n == n) ≡ true
same_number n = grind (arith, nat_tests)

pub carry_carries : (cells : List Cell) (i at : ℕ) → slice_get cells i ≡ Some (Carry at) → carries cells i at ≡ true
carry_carries cells i at e = ap (is_carried_from at) e ∙ same_number at

-- ---- halves that agree

-- the lens of a pair has a cell for each new column
pub pair_long : (pair : Pair) → IsPair pair → length pair.lens.new_cols ≡ length pair.new.columns
pair_long pair p = cells_long pair.old.columns pair.new.columns pair.lens.new_cols (both (cells_fit pair.old.columns pair.new.columns pair.lens.new_cols) (cells_fit pair.new.columns pair.old.columns pair.lens.old_cols) p.fitting).0

pub old_long : (pair : Pair) → IsPair pair → length pair.lens.old_cols ≡ length pair.old.columns
old_long pair p = cells_long pair.new.columns pair.old.columns pair.lens.old_cols (both (cells_fit pair.old.columns pair.new.columns pair.lens.new_cols) (cells_fit pair.new.columns pair.old.columns pair.lens.old_cols) p.fitting).1

-- each carried place of a pair is one of an old half as long as the old columns
pub pair_within : (pair : Pair) (old : List Value) → IsPair pair → length old ≡ length pair.old.columns → (i at : ℕ) → slice_get pair.lens.new_cols i ≡ Some (Carry at) → at < length old
pair_within pair old p long i at e =
    subst (λ n. at < n) (sym long) (carried_within pair.old.columns pair.new.columns pair.lens.new_cols i at (both (cells_fit pair.old.columns pair.new.columns pair.lens.new_cols) (cells_fit pair.new.columns pair.old.columns pair.lens.old_cols) p.fitting).0 e)

forward_agrees : ForwardCarries → (pair : Pair) (old new : List Value) (previous : Option (List Value)) → IsPair pair → length old ≡ length pair.old.columns → forward pair.lens pair.old old previous ≡ Ok new → Alike pair.lens.new_cols old new
forward_agrees carries_on pair old new previous p long e = record {
  long = made_long pair.old old previous 0 pair.lens.new_cols new e;
  within = pair_within pair old p long;
  same = λ i at c. sym (carries_on pair.lens pair.old old previous new i at e (carry_carries pair.lens.new_cols i at c));
}

backward_agrees : BackwardCarries → (pair : Pair) (old new : List Value) (previous : Option (List Value)) → IsPair pair → length new ≡ length pair.new.columns → backward pair.lens pair.new new previous ≡ Ok old → Alike pair.lens.new_cols old new
backward_agrees carries_on pair old new previous p long e =
    let old_as_long : length old ≡ length pair.old.columns = made_long pair.new new previous 0 pair.lens.old_cols old e ∙ old_long pair p in
    record {
      long = long ∙ sym (pair_long pair p);
      within = pair_within pair old p old_as_long;
      same = λ i at c. carries_on pair.lens pair.new new previous old at i e (sym (p.lens.both_ways i at) ∙ carry_carries pair.lens.new_cols i at c);
    }

begun_same : (cells : List Cell) (old : List Value) (i at : ℕ) → slice_get cells i ≡ Some (Carry at) → slice_index_or old at Null ≡ slice_index_or (map (unfilled_value old) cells) i Null
begun_same [] old i at e = cc
begun_same (cell ∷ cells) old zero at e = let same : cell ≡ Carry at = cc in ap (unfilled_value old) (sym same)
begun_same (cell ∷ cells) old (suc i) at e = begun_same cells old i at e

begun_agrees : (pair : Pair) (old : List Value) → IsPair pair → length old ≡ length pair.old.columns → Alike pair.lens.new_cols old (unfilled pair.lens old)
begun_agrees pair old p long = record {
  long = length-map pair.lens.new_cols (unfilled_value old);
  within = pair_within pair old p long;
  same = begun_same pair.lens.new_cols old;
}

-- ---- the laws

from_old_holds : ForwardCarries → (pair : Pair) (half stored : List Value) (previous : Option (List Value)) → IsPair pair → row_fits pair.old half ≡ true → and_then (forward pair.lens pair.old half previous) (λ new. Ok (stored_row pair half new false)) ≡ Ok stored → (new : List Value) × (forward pair.lens pair.old half previous ≡ Ok new) × Holds pair half new false stored
from_old_holds carries_on pair half stored previous p fit e =
    let steps = and_then_ok (forward pair.lens pair.old half previous) (λ new. Ok (stored_row pair half new false)) stored e in
    let is : stored_row pair half steps.0 false ≡ stored = cc in
    let long = row_long pair.old half fit in
    let agree = forward_agrees carries_on pair half steps.0 previous p long steps.1 in
    (steps.0, steps.1, subst (λ row. Holds pair half steps.0 false row) is (holds pair half steps.0 false false p long (pair_long pair p) agree (and_false pair.layout.mark)))

pub old_writes_hold : ForwardCarries → OldWritesHold
old_writes_hold carries_on pair half stored before p fit e = from_old_holds carries_on pair half stored (option_and_then (new_half pair) before) p fit e

pub filled_rows_hold : ForwardCarries → FilledRowsHold
filled_rows_hold carries_on pair before stored p fit e = from_old_holds carries_on pair (old_view pair before) stored None p fit e

pub new_writes_hold : BackwardCarries → NewWritesHold
new_writes_hold carries_on pair half stored before p fit e =
    let previous = option_map (old_view pair) before in
    let steps = and_then_ok (backward pair.lens pair.new half previous) (λ old. Ok (stored_row pair old half false)) stored e in
    let is : stored_row pair steps.0 half false ≡ stored = cc in
    let long = made_long pair.new half previous 0 pair.lens.old_cols steps.0 steps.1 ∙ old_long pair p in
    let agree = backward_agrees carries_on pair steps.0 half previous p (row_long pair.new half fit) steps.1 in
    (steps.0, steps.1, subst (λ row. Holds pair steps.0 half false row) is (holds pair steps.0 half false false p long (pair_long pair p) agree (and_false pair.layout.mark)))

pub begun_rows_hold : BegunRowsHold
begun_rows_hold pair old p fit =
    let long = row_long pair.old old fit in
    holds pair old (unfilled pair.lens old) true pair.layout.mark p long (pair_long pair p) (begun_agrees pair old p long) (and_true pair.layout.mark)

pub pairs_are_long : PairsAreLong
pairs_are_long pair p = (old_long pair p, pair_long pair p)

pub stored_rows_hold : StoredRowsHold
stored_rows_hold pair old new marked p old_as_long new_as_long agree =
    let alike : Alike pair.lens.new_cols old new = record {
      long = new_as_long ∙ sym (pair_long pair p);
      within = pair_within pair old p old_as_long;
      same = λ i at c. sym (agree i at (carry_carries pair.lens.new_cols i at c));
    } in
    holds pair old new marked (pair.layout.mark && marked) p old_as_long (pair_long pair p) alike refl
