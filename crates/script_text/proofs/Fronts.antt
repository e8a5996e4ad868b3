-- What stands behind a front.
use Rattle.std.proofs.Common.{◌≡◌, ◌≢◌, ℕ, Bool, true, false, cond, eqb, List, [], ◌∷◌, ◌++◌, Option, None, Some, MatchOption, Bor, refl, sym, ap, ◌∙◌}
use Rattle.std.specs.Option.{option_copied}
use Rattle.std.proofs.lemmas.Bool.{eqb-true, eq-eqb}
use Rattle.script_text.specs.Script.{behind}

behind_front : (front rest : List ℕ) → behind front (front ++ rest) ≡ Some rest
behind_front [] rest = refl
behind_front (c ∷ front) rest = rw (eq-eqb c c refl) (behind_front front rest)

chosen : (t : Bool) (found : Option (List ℕ)) → (t ≡ true → found ≡ None) → cond t found None ≡ None
chosen true found h = h refl
chosen false found h = refl

behind_none : (front line : List ℕ) → ((rest : List ℕ) → line ≢ front ++ rest) → behind front line ≡ None
behind_none [] line h = absurd (h line refl)
behind_none (c ∷ front) [] h = refl
behind_none (c ∷ front) (b ∷ line) h =
    chosen (eqb b c) (behind front line) (λ t. behind_none front line (λ rest e. let same : b ≡ c = eqb-true b c t in h rest cc))

pub behind_is : (front line : List ℕ) (found : Option (Bor (List ℕ))) → MatchOption found ((rest : List ℕ) → line ≢ front ++ rest) (λ x. line ≡ front ++ x.now) → option_copied found ≡ behind front line
behind_is front line None h = sym (behind_none front line h)
behind_is front line (Some x) h = sym (ap (behind front) h ∙ behind_front front x.now)
