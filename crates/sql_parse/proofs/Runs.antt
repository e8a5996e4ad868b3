-- Machines that go through tokens, one step a token.
use Rattle.std.proofs.Common.{◌≡◌, List, [], ◌∷◌, ◌++◌, Bool, true, false, Option, Some, None, refl, ◌∙◌, ap}
use Rattle.sql_text.specs.declared.tokens.Token.{Token}
use Rattle.sql_text.specs.declared.tokens.Token.TheVariants as t
use Rattle.sql_parse.specs.Viable.{CanBe}

abbrev pub goes : {S : Type 0} → (S → Token → Option S) → Option S → Token → Option S
goes step None x = None
goes step (Some r) x = step r x

-- the state after these tokens, if they can be gone through
abbrev pub runs : {S : Type 0} → (S → Token → Option S) → Option S → List Token → Option S
runs step r [] = r
runs step r (x ∷ xs) = runs step (goes step r x) xs

pub runs-append : {S : Type 0} (step : S → Token → Option S) (r : Option S) (xs ys : List Token) → runs step r (xs ++ ys) ≡ runs step (runs step r xs) ys
runs-append step r [] ys = refl
runs-append step r (x ∷ xs) ys = runs-append step (goes step r x) xs ys

pub runs-none : {S : Type 0} (step : S → Token → Option S) (xs : List Token) → runs step None xs ≡ None
runs-none step [] = refl
runs-none step (x ∷ xs) = runs-none step xs

-- one token more
pub runs_last : {S : Type 0} (step : S → Token → Option S) (start : Option S) (ts : List Token) (x : Token) (r : S) → runs step start ts ≡ Some r → runs step start (ts ++ x ∷ []) ≡ step r x
runs_last step start ts x r e = runs-append step start ts (x ∷ []) ∙ ap (λ o. goes step o x) e

-- A machine tells which tokens can become a whole text, and where a number may come.
pub record Tells {S X : Type 0} (IsWhole : List Token → X → Type 0) (step : S → Token → Option S) (start : S) (takes : S → Bool) : Type 0 where
  pub can : (ts : List Token) (r : S) → runs step (Some start) ts ≡ Some r → CanBe IsWhole ts
  pub cannot : (ts : List Token) → runs step (Some start) ts ≡ None → CanBe IsWhole ts → ⊥
  pub number : (r : S) → takes r ≡ true → (next : S) × (step r (t.Int 0) ≡ Some next)
  pub no_number : (r : S) → takes r ≡ false → step r (t.Int 0) ≡ None
