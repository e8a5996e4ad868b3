-- The first of several places is the same, however they are taken together.
use Rattle.std.proofs.Common.{◌≡◌, ◌∙◌, ap, sym, ◌∷◌, ℕ, ◌+◌, ◌<◌, Bool, true, false, List, length, get_or, drop, map, Option, Some, None, if◌then◌else◌, refl, arith}
use Rattle.std.proofs.lemmas.List.{drop_more}
use Rattle.std.proofs.lemmas.Bool.Decides.{nat_tests}
use Rattle.mig_lens.specs.declared.faults.Place.{Place}
use Rattle.mig_plan.specs.Places.{earlier, is_first, least}

first_before : (p q r : Place) → is_first p q ≡ true → is_first q r ≡ true → is_first p r ≡ true
first_before p q r a b = grind (arith, nat_tests)

last_behind : (p q r : Place) → is_first p q ≡ false → is_first q r ≡ false → is_first p r ≡ false
last_behind p q r a b = grind (arith, nat_tests)

pub earlier_assoc : (p q r : Option Place) → earlier (earlier p q) r ≡ earlier p (earlier q r)
earlier_assoc None q r = refl
earlier_assoc (Some p) None r = refl
earlier_assoc (Some p) (Some q) None = by_test (is_first p q)
  where
    by_test : (a : Bool) → earlier (if a then Some p else Some q) None ≡ (if a then Some p else Some q)
    by_test true = refl
    by_test false = refl
earlier_assoc (Some p) (Some q) (Some r) = by_tests (is_first p q) (is_first q r) refl refl
  where
    by_tests : (a b : Bool) → is_first p q ≡ a → is_first q r ≡ b → earlier (if a then Some p else Some q) (Some r) ≡ earlier (Some p) (if b then Some q else Some r)
    by_tests true true h k = rw (first_before p q r h k, h)
    by_tests true false h k = refl
    by_tests false true h k = rw (h, k)
    by_tests false false h k = rw (k, last_behind p q r h k)

-- One more element is looked at.
pub least_step : {X : Type 0} (f : X → Option Place) (xs : List X) (at : ℕ) (x : X) (so_far : Option Place) → at < length xs → x ≡ get_or xs at x → earlier (earlier so_far (f x)) (least (map f (drop (at + 1) xs))) ≡ earlier so_far (least (map f (drop at xs)))
least_step f xs at x so_far few is =
    earlier_assoc so_far (f x) (least (map f (drop (at + 1) xs))) ∙ ap (λ ys. earlier so_far (least (map f ys))) (ap (λ y. y ∷ drop (at + 1) xs) is ∙ sym (drop_more xs at x few))
