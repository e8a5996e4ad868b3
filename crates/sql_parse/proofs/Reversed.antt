-- A test of all of a list and of the list the other way round.
use Rattle.std.proofs.Common.{◌≡◌, List, [], ◌∷◌, Bool, true, false, ◌&&◌, reverse, refl, ap, ◌∙◌}
use Rattle.std.specs.List.{list_all}
use Rattle.std.proofs.lemmas.List.{reverse-append}
use Rattle.std.proofs.lemmas.List.Folds.{list_all-append}

turned : (a b : Bool) → b && (a && true) ≡ a && b
turned true true = refl
turned true false = refl
turned false true = refl
turned false false = refl

pub all_reversed : {X : Type 0} (test : X → Bool) (xs : List X) → list_all test (reverse xs) ≡ list_all test xs
all_reversed test [] = refl
all_reversed test (x ∷ xs) =
    ap (list_all test) (reverse-append (x ∷ []) xs) ∙ list_all-append test (reverse xs) (x ∷ [])
    ∙ ap (λ b. b && (test x && true)) (all_reversed test xs) ∙ turned (test x) (list_all test xs)
