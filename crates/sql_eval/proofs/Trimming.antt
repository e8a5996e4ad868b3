-- Where no space stands at an end, that end stays.
use Rattle.std.proofs.Common.{◌≡◌, ◌≢◌, ℕ, List, [], ◌∷◌, ◌++◌, ◌∙◌, ap, refl, sym, arith}
use Rattle.std.specs.Prelude.{reverse}
use Rattle.std.proofs.lemmas.List.{reverse-append, reverse-reverse}
use Rattle.sql_eval.specs.Cast.{trim_front, trim_back}

pub trim_front-stop : (bs : List ℕ) → ((rest : List ℕ) → bs ≢ 32 ∷ rest) → trim_front bs ≡ bs
trim_front-stop [] h = refl
trim_front-stop (b ∷ bs) h = grind (arith, h bs)

pub trim_back-stop : (bs : List ℕ) → ((front : List ℕ) → bs ≢ front ++ (32 ∷ [])) → trim_back bs ≡ bs
trim_back-stop bs h =
    let no_front : (rest : List ℕ) → reverse bs ≢ 32 ∷ rest = λ rest e. h (reverse rest) (sym (reverse-reverse bs) ∙ ap reverse e ∙ reverse-append (32 ∷ []) rest) in
    ap reverse (trim_front-stop (reverse bs) no_front) ∙ reverse-reverse bs
