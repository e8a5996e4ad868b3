-- Lists of seats.
use Rattle.std.proofs.Common.{◌≡◌, ℕ, zero, suc, ◌<◌, List, [], ◌∷◌, ◌++◌, length, Option, Some, sym, refl, ap, ◌∙◌, subst, arith, length-append}
use Rattle.std.specs.Prelude.{option_to_list}
use mathlib.Core.Option.{some}
use lib.ListN.{get_elem?}
use Rattle.atomic_table.proofs.Lists.{at_longer, at_last}
use Rattle.latch.specs.Lists.{total}

module _ {S : Type 0} where
  pub two_seats : (xs ys zs : List S) (a b : S) (first second : Option S) → first ≡ Some a → second ≡ Some b → xs ≡ ys ++ option_to_list second → ys ≡ zs ++ option_to_list first → length xs ≡ 2
      → (get_elem? xs 0 ≡ some a) × (get_elem? xs 1 ≡ some b)
  two_seats xs ys zs a b first second fa sb last before two =
      let l : xs ≡ ys ++ b ∷ [] = last ∙ ap (λ (o : Option S). ys ++ option_to_list o) sb in
      let m : ys ≡ zs ++ a ∷ [] = before ∙ ap (λ (o : Option S). zs ++ option_to_list o) fa in
      let ll = ap length l ∙ length-append ys (b ∷ []) in let mm = ap length m ∙ length-append zs (a ∷ []) in
      let one : length ys ≡ 1 = omega arith in let none_left : length zs ≡ 0 = omega arith in (
        subst (λ (q : List S). get_elem? q 0 ≡ some a) (sym l) (at_longer ys (b ∷ []) 0 a (subst (λ (q : List S). get_elem? q 0 ≡ some a) (sym m) (at_last zs a 0 none_left))),
        subst (λ (q : List S). get_elem? q 1 ≡ some b) (sym l) (at_last ys b 1 one),
      )

  pub each_one : (f : S → ℕ) (all : List S) → ((k : ℕ) (s : S) → get_elem? all k ≡ some s → f s ≡ 1) → total f all ≡ length all
  each_one f [] h = refl
  each_one f (x ∷ xs) h = let here = h 0 x refl in let more = each_one f xs (λ k s e. h (suc k) s e) in omega arith

  pub there_is : (all : List S) (k : ℕ) → k < length all → (s : S) × (get_elem? all k ≡ some s)
  there_is [] k h = absurd (omega arith)
  there_is (x ∷ xs) zero h = (x, refl)
  there_is (x ∷ xs) (suc k) h = there_is xs k (omega arith)
