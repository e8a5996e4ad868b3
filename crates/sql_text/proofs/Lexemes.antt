-- One token off the front of a text.
use Rattle.std.proofs.Common.{◌≡◌, ℕ, suc, zero, ◌+◌, ◌-◌, ◌<◌, ◌≤◌, List, [], ◌∷◌, true, false, refl, sym, ◌∙◌, ap, arith, drop, length, get_or, add-one, drop-cons, add-zero}
use Rattle.std.proofs.lemmas.List.{drop-drop}
use Rattle.sql_text.specs.declared.tokens.Token.TheVariants as t
use Rattle.sql_text.specs.Lexing.{is_blank, first, lexed}

-- bytes of a token that was read are passed over
pub skipped : (at k : ℕ) (bs : List ℕ) → k ≤ length bs → lexed at k bs ≡ lexed (at + k) 0 (drop k bs)
unfolding lexed
skipped at zero bs h = rw add-zero refl
skipped at (suc k) [] h = absurd (omega arith)
skipped at (suc k) (b ∷ bs) h =
    let same : at + suc k ≡ (at + 1) + k = omega arith in rw same (skipped (at + 1) k bs (omega arith))

after_blank : (at b : ℕ) (bs : List ℕ) → is_blank b ≡ true → lexed at 0 (b ∷ bs) ≡ lexed (at + 1) 0 bs
unfolding lexed
after_blank at b bs e = rw e refl

after_token : (at b n : ℕ) (bs : List ℕ) → is_blank b ≡ false → (first (b ∷ bs)).1 ≡ suc n → n ≤ length bs →
    lexed at 0 (b ∷ bs) ≡ record { at = at; token = (first (b ∷ bs)).0 } ∷ lexed (at + suc n) 0 (drop n bs)
unfolding lexed
after_token at b n bs e is h = rw (e, is) (ap (λ ts. record { at = at; token = (first (b ∷ bs)).0 } ∷ ts)
    (let same : at + suc n ≡ (at + 1) + n = omega arith in let less : suc n - 1 ≡ n = omega arith in rw (same, less) (skipped (at + 1) n bs h)))

front : (text : List ℕ) (at : ℕ) → at < length text → drop at text ≡ get_or text at 0 ∷ drop (at + 1) text
front text at h = rw add-one (drop-cons text at 0 h)

pub at_blank : (text : List ℕ) (at : ℕ) → at < length text → is_blank (get_or text at 0) ≡ true →
    lexed at 0 (drop at text) ≡ lexed (at + 1) 0 (drop (at + 1) text)
at_blank text at h e = ap (lexed at 0) (front text at h) ∙ after_blank at (get_or text at 0) (drop (at + 1) text) e

pub at_token : (text : List ℕ) (at n : ℕ) → at < length text → is_blank (get_or text at 0) ≡ false → (first (drop at text)).1 ≡ n → 0 < n → n ≤ length (drop at text) →
    lexed at 0 (drop at text) ≡ record { at = at; token = (first (drop at text)).0 } ∷ lexed (at + n) 0 (drop (at + n) text)
at_token text at zero h e is some within = absurd (omega arith)
at_token text at (suc n) h e is some within =
    let cons = front text at h in
    let word : (first (get_or text at 0 ∷ drop (at + 1) text)).1 ≡ suc n = ap (λ bs. (first bs).1) (sym cons) ∙ is in
    let room : n ≤ length (drop (at + 1) text) = omega (arith, ap length cons) in
    let one = ap (lexed at 0) cons ∙ after_token at (get_or text at 0) n (drop (at + 1) text) e word room in
    let same : (first (get_or text at 0 ∷ drop (at + 1) text)).0 ≡ (first (drop at text)).0 = ap (λ bs. (first bs).0) (sym cons) in
    let place : (at + 1) + n ≡ at + suc n = omega arith in
    let rest : drop n (drop (at + 1) text) ≡ drop (at + suc n) text = drop-drop n (at + 1) text ∙ ap (λ m. drop m text) place in
    one ∙ ap (λ t. record { at = at; token = t } ∷ lexed (at + suc n) 0 (drop n (drop (at + 1) text))) same
    ∙ ap (λ bs. record { at = at; token = (first (drop at text)).0 } ∷ lexed (at + suc n) 0 bs) rest

pub at_end : (at : ℕ) → lexed at 0 [] ≡ record { at = at; token = t.End } ∷ []
unfolding lexed
at_end at = refl
