-- Which rows are stored by a pair's layout, and how long and marked they are.
use Rattle.std.proofs.Common.{◌≡◌, ◌∙◌, ℕ, ◌+◌, List, [], ◌∷◌, ◌++◌, Bool, true, false, Option, None, Ok, length, map, ap, refl, sym}
use Rattle.std.specs.List.{list_any}
use Rattle.std.specs.Option.{option_and_then, option_map}
use Rattle.std.proofs.lemmas.List.{length-map}
use Rattle.sql_base.specs.declared.shapes.Shape.{Shape}
use Rattle.sql_base.specs.declared.values.Value.{Value}
use Rattle.sql_base.specs.Fit.{row_fits}
use Rattle.sql_base.specs.Laws.{and_false, and_then_ok, and_true, columns_fit, columns_long}
use Rattle.sql_base.specs.Outcome.{and_then, every}
use Rattle.mig_lens.specs.declared.columns.Cell.{Cell}
use Rattle.mig_lens.specs.declared.columns.Cell.TheVariants.{Carry, Make, Still}
use Rattle.mig_lens.specs.Laws.{BackwardFits, FitsBefore, ForwardFits}
use Rattle.mig_lens.specs.Layout.{is_make}
use Rattle.mig_lens.specs.Lens.{backward, forward, outcomes, unfilled, unfilled_value}
use Rattle.trigger_pair.specs.declared.pairs.Pair.{Pair}
use Rattle.trigger_pair.specs.Laws.{BeginningLeaves, FilledRowsAreLong, FillingFills, IsPair, NewWritesFill, OldWritesFill, UnfilledRowsAreBegun}
use Rattle.trigger_pair.specs.Rows.{IsBegunRow, IsFilledRow}
use Rattle.trigger_pair.specs.Stored.{begun, from_old, mark_value, new_half, old_view, shadow_values, stored_row}
use Rattle.trigger_pair.proofs.Halves.{pair_long}
use Rattle.trigger_pair.proofs.Places.{mark_of_row, old_of_row, stored_long}

-- ---- writes and fills

from_old_fills : ForwardFits → (pair : Pair) (half stored : List Value) (previous : Option (List Value)) → IsPair pair → row_fits pair.old half ≡ true → FitsBefore pair.new previous → from_old pair half previous ≡ Ok stored → IsFilledRow pair stored
from_old_fills forward_fits pair half stored previous p fit before e =
    let steps = and_then_ok (forward pair.lens pair.old half previous) (λ new. Ok (stored_row pair half new false)) stored e in
    let is : stored_row pair half steps.0 false ≡ stored = cc in
    let made = forward_fits pair.lens pair.old pair.new half previous steps.0 p.fitting p.lens fit before steps.1 in
    record { old = half; new = steps.0; old_fits = columns_fit pair.old half fit; new_fits = columns_fit pair.new steps.0 made.0; is = sym is }

pub old_writes_fill : ForwardFits → OldWritesFill
old_writes_fill forward_fits pair half stored before p fit previous e = from_old_fills forward_fits pair half stored (option_and_then (new_half pair) before) p fit previous e

pub filling_fills : ForwardFits → FillingFills
filling_fills forward_fits pair before stored p fit e = from_old_fills forward_fits pair (old_view pair before) stored None p fit refl e

pub new_writes_fill : BackwardFits → NewWritesFill
new_writes_fill backward_fits pair half stored before p fit previous e =
    let old_before = option_map (old_view pair) before in
    let steps = and_then_ok (backward pair.lens pair.new half old_before) (λ old. Ok (stored_row pair old half false)) stored e in
    let is : stored_row pair steps.0 half false ≡ stored = cc in
    let made = backward_fits pair.lens pair.old pair.new half old_before steps.0 p.fitting p.lens fit previous steps.1 in
    record { old = steps.0; new = half; old_fits = columns_fit pair.old steps.0 made.0; new_fits = columns_fit pair.new half fit; is = sym is }

-- ---- what START leaves

-- Where nothing is made, what a row shows that is still to be filled is what the lens makes of its old half.
unfilled_is_made : (shape : Shape) (old : List Value) (at : ℕ) (cells : List Cell) → list_any is_make cells ≡ false → every (outcomes shape old None at cells) ≡ Ok (map (unfilled_value old) cells)
unfilled_is_made shape old at [] h = refl
unfilled_is_made shape old at (Carry from ∷ cells) h = ap (λ r. and_then r (λ values. Ok (unfilled_value old (Carry from) ∷ values))) (unfilled_is_made shape old (at + 1) cells h)
unfilled_is_made shape old at (Make up ∷ cells) h = cc
unfilled_is_made shape old at (Still value ∷ cells) h = ap (λ r. and_then r (λ values. Ok (value ∷ values))) (unfilled_is_made shape old (at + 1) cells h)

begun_without_mark : ForwardFits → (pair : Pair) (old : List Value) → IsPair pair → row_fits pair.old old ≡ true → pair.layout.mark ≡ false → IsFilledRow pair (begun pair old)
begun_without_mark forward_fits pair old p fit unmade =
    let new = unfilled pair.lens old in
    let none = sym (ap (λ l. l.mark) p.layout) ∙ unmade in
    let made = forward_fits pair.lens pair.old pair.new old None new p.fitting p.lens fit refl (unfilled_is_made pair.old old 0 pair.lens.new_cols none) in
    let same : mark_value pair.layout.mark true ≡ mark_value pair.layout.mark false = ap (λ m. mark_value m true) unmade ∙ sym (ap (λ m. mark_value m false) unmade) in
    record {
      old = old;
      new = new;
      old_fits = columns_fit pair.old old fit;
      new_fits = columns_fit pair.new new made.0;
      is = ap (λ mark. old ++ shadow_values pair.lens.new_cols new ++ mark) same;
    }

pub beginning_leaves : ForwardFits → BeginningLeaves
beginning_leaves forward_fits pair old p fit = by_mark pair.layout.mark refl
  where
    by_mark : (mark : Bool) → pair.layout.mark ≡ mark → IsBegunRow mark pair (begun pair old)
    by_mark true has = record { old = old; fits = columns_fit pair.old old fit; mark = has; is = refl }
    by_mark false none = begun_without_mark forward_fits pair old p fit none

-- ---- lengths and marks

pub filled_rows_are_long : FilledRowsAreLong
filled_rows_are_long pair stored p row =
    let long = stored_long pair row.old row.new false p (columns_long pair.old.columns row.old row.old_fits) (pair_long pair p) (columns_long pair.new.columns row.new row.new_fits ∙ sym (pair_long pair p)) in
    let mark = mark_of_row (row.old ++ shadow_values pair.lens.new_cols row.new) pair.layout.mark false ∙ and_false pair.layout.mark in
    rw row.is (long, mark)

pub unfilled_rows_are_begun : UnfilledRowsAreBegun
unfilled_rows_are_begun pair stored p row =
    let new = unfilled pair.lens row.old in
    let old_long = columns_long pair.old.columns row.old row.fits in
    let long = stored_long pair row.old new true p old_long (pair_long pair p) (length-map pair.lens.new_cols (unfilled_value row.old)) in
    let mark = mark_of_row (row.old ++ shadow_values pair.lens.new_cols new) pair.layout.mark true ∙ and_true pair.layout.mark ∙ row.mark in
    let shown = old_of_row row.old (shadow_values pair.lens.new_cols new) (mark_value pair.layout.mark true) (length pair.old.columns) old_long in
    rw row.is (long, mark, ap (begun pair) (sym shown))
