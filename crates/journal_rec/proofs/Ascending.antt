-- Keys that ascend, at each place.
use Rattle.std.proofs.Common.{◌≡◌, ℕ, zero, suc, ◌+◌, ◌<◌, Bool, true, false, List, [], ◌∷◌, length, get_or, refl, sym, ap, subst, ◌∙◌, arith}
use Rattle.std.specs.Prelude.{◌&&◌, int_lt}
use Rattle.std.specs.List.{AllAdjacentBelow, IsAllAdjacentAnswer}
use Rattle.sql_base.specs.Laws.{all_true, and_false}
use Rattle.journal_rec.specs.declared.records.RecordedRow.{RecordedRow}
use Rattle.journal_rec.specs.Body.{ascend}

abbrev pub below : RecordedRow → RecordedRow → Bool
below row next = int_lt row.key next.key

one_on : (k : ℕ) → suc k + 1 ≡ suc (k + 1)
one_on k = omega arith

all_ascend : (rows : List RecordedRow) → AllAdjacentBelow (λ row next. true ≡ below row next) rows (length rows) → ascend rows ≡ true
all_ascend [] all = refl
all_ascend (row ∷ []) all = refl
all_ascend (row ∷ next ∷ rows) all =
    all_true (below row next) (ascend (next ∷ rows)) (sym (all 0 row (omega arith)))
    (all_ascend (next ∷ rows) (λ k d lt. subst (λ (n : ℕ). true ≡ below (get_or (next ∷ rows) k d) (get_or (row ∷ next ∷ rows) n d)) (one_on k) (all (suc k) d (omega (arith, lt)))))

one_falls : (rows : List RecordedRow) (k : ℕ) → k + 1 < length rows → ((d : RecordedRow) → false ≡ below (get_or rows k d) (get_or rows (k + 1) d)) → ascend rows ≡ false
one_falls [] k lt at = absurd (omega arith)
one_falls (row ∷ []) k lt at = absurd (omega arith)
one_falls (row ∷ next ∷ rows) zero lt at = ap (λ (b : Bool). b && ascend (next ∷ rows)) (sym (at row))
one_falls (row ∷ next ∷ rows) (suc k) lt at = ap (λ (b : Bool). below row next && b) (one_falls (next ∷ rows) k (omega (arith, lt)) (λ d. subst (λ (n : ℕ). false ≡ below (get_or (next ∷ rows) k d) (get_or (row ∷ next ∷ rows) n d)) (one_on k) (at d))) ∙ and_false (below row next)

pub answer_is : (rows : List RecordedRow) (answer : Bool) → IsAllAdjacentAnswer (λ row next b. b ≡ below row next) rows answer → answer ≡ ascend rows
answer_is rows true all = sym (all_ascend rows all)
answer_is rows false (k, lt, at) = sym (one_falls rows k lt at)
