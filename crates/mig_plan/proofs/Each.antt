-- What holds of each element of a list.
use Rattle.std.proofs.Common.{◌≡◌, List, [], ◌∷◌, ◌++◌, Bool, true, false, Some, if◌then◌else◌, map, subst}
use Rattle.std.specs.Prelude.{find}

abbrev pub Each : {X : Type 0} → (X → Type 0) → List X → Type 0
Each P [] = Unit {0}
Each P (x ∷ xs) = P x × Each P xs

pub each_mapped : {X Y : Type 0} (P : X → Type 0) (Q : Y → Type 0) (f : X → Y) → ((x : X) → P x → Q (f x)) → (xs : List X) → Each P xs → Each Q (map f xs)
each_mapped P Q f more [] h = tt
each_mapped P Q f more (x ∷ xs) h = (more x h.0, each_mapped P Q f more xs h.1)

pub each_more : {X : Type 0} (P Q : X → Type 0) → ((x : X) → P x → Q x) → (xs : List X) → Each P xs → Each Q xs
each_more P Q more [] h = tt
each_more P Q more (x ∷ xs) h = (more x h.0, each_more P Q more xs h.1)

pub each_both : {X : Type 0} (P Q R : X → Type 0) → ((x : X) → P x → Q x → R x) → (xs : List X) → Each P xs → Each Q xs → Each R xs
each_both P Q R more [] h k = tt
each_both P Q R more (x ∷ xs) h k = (more x h.0 k.0, each_both P Q R more xs h.1 k.1)

pub each_append : {X : Type 0} (P : X → Type 0) (xs ys : List X) → Each P xs → Each P ys → Each P (xs ++ ys)
each_append P [] ys h k = k
each_append P (x ∷ xs) ys h k = (h.0, each_append P xs ys h.1 k)

pub each_found : {X : Type 0} (P : X → Type 0) (q : X → Bool) (xs : List X) (x : X) → find q xs ≡ Some x → Each P xs → P x
each_found P q [] x h e = cc
each_found P q (y ∷ xs) x h e = by_test (λ k. each_found P q xs x k e.1) (q y) h
  where
    by_test : (find q xs ≡ Some x → P x) → (b : Bool) → (if b then Some y else find q xs) ≡ Some x → P x
    by_test more true k = let is : y ≡ x = cc in subst P is e.0
    by_test more false k = more k

-- R holds of each element and each later one.
abbrev pub Pairwise : {X : Type 0} → (X → X → Type 0) → List X → Type 0
Pairwise R [] = Unit {0}
Pairwise R (x ∷ xs) = Each (R x) xs × Pairwise R xs

pub pairwise_mapped : {X : Type 0} (R : X → X → Type 0) (Q : X → Type 0) (f : X → X) → ((x y : X) → Q x → Q y → R x y → R (f x) (f y)) → (xs : List X) → Each Q xs → Pairwise R xs → Pairwise R (map f xs)
pairwise_mapped R Q f more [] q h = tt
pairwise_mapped {X} R Q f more (x ∷ xs) q h = (rest xs q.1 h.0, pairwise_mapped R Q f more xs q.1 h.1)
  where
    rest : (ys : List X) → Each Q ys → Each (R x) ys → Each (R (f x)) (map f ys)
    rest [] k g = tt
    rest (y ∷ ys) k g = (more x y q.0 k.0 g.0, rest ys k.1 g.1)

pub pairwise_more : {X : Type 0} (R : X → X → Type 0) (xs : List X) (y : X) → Pairwise R xs → Each (λ x. R x y) xs → Pairwise R (xs ++ y ∷ [])
pairwise_more R [] y h k = (tt, tt)
pairwise_more R (x ∷ xs) y h k = (each_append (R x) xs (y ∷ []) h.0 (k.0, tt), pairwise_more R xs y h.1 k.1)
