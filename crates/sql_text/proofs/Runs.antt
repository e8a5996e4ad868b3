-- The bytes of a kind that come first.
use Rattle.std.proofs.Common.{◌≡◌, ℕ, suc, ◌+◌, List, [], ◌∷◌, Bool, true, false, cond, refl, take, drop, length, get_or, ◌<◌, add-one, drop-cons, arith}
use Rattle.std.specs.List.{list_all, prefix_len, find}
use Rattle.std.proofs.lemmas.Bool.{and_from}

pub all_of_run : (is : ℕ → Bool) (text : List ℕ) → list_all is (take (prefix_len is text) text) ≡ true
all_of_run is [] = refl
all_of_run is (b ∷ text) = by_test (is b) refl (all_of_run is text)
  where
    by_test : (t : Bool) → is b ≡ t → list_all is (take (prefix_len is text) text) ≡ true → list_all is (take (cond t (1 + prefix_len is text) 0) (b ∷ text)) ≡ true
    by_test true e more = let on : 1 + prefix_len is text ≡ suc (prefix_len is text) = omega arith in rw on (and_from _ _ e more)
    by_test false e more = refl

pub find_past : {X : Type 0} (p : X → Bool) (xs : List X) (i : ℕ) (d : X) → i < length xs → p (get_or xs i d) ≡ false → find p (drop i xs) ≡ find p (drop (i + 1) xs)
find_past p xs i d h e =
    let front : drop i xs ≡ get_or xs i d ∷ drop (i + 1) xs = rw add-one (drop-cons xs i d h) in
    rw (front, e) refl
