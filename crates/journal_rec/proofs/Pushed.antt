-- What is written for one more.
use Rattle.std.proofs.Common.{◌≡◌, ℕ, ◌+◌, ◌<◌, List, [], ◌∷◌, ◌++◌, length, get_or, take, sym, ap, ◌∙◌}
use Rattle.std.specs.List.{flat_map}
use Rattle.std.proofs.lemmas.List.{flat_map_more, take_more}

pub one_more : {X : Type 0} (form : X → List ℕ) (xs : List X) (i : ℕ) (x : X) (start now later : List ℕ) → i < length xs → x ≡ get_or xs i x
    → now ≡ start ++ flat_map form (take i xs) → later ≡ now ++ form x → later ≡ start ++ flat_map form (take (i + 1) xs)
one_more {X} form xs i x start now later lt is so_far next =
    next ∙ ap (λ (l : List ℕ). l ++ form x) so_far ∙ flat_map_more form start (take i xs) x
    ∙ ap (λ (l : List X). start ++ flat_map form l) (ap (λ (y : X). take i xs ++ y ∷ []) is ∙ sym (take_more xs i x lt))
