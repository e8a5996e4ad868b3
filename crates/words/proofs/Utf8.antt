-- Words that are UTF-8.
use Rattle.std.proofs.Common.{◌≡◌, ◌<◌, ◌≤◌, ◌&&◌, ℕ, zero, suc, Bool, true, false, List, [], ◌∷◌, None, Some, Bor, cond, length, get_or, take, map, refl, sym, ap, ◌∙◌, arith}
use Rattle.std.specs.List.{list_all}
use Rattle.std.specs.Str.{IsUtf8, is_utf8}
use Rattle.std.proofs.lemmas.List.{take_all}
use Rattle.std.proofs.lemmas.List.Folds.{list_all-map}
use Rattle.std.proofs.lemmas.Str.{IsUtf8-from_is_utf8, is_utf8-from_IsUtf8}
use Rattle.words.specs.Words.{text_of, texts_of}

pub text_is : (word : List ℕ) → IsUtf8 word → text_of word ≡ Some word
text_is word h = rw (is_utf8-from_IsUtf8 word h) refl

pub no_text : (word : List ℕ) → ¬ IsUtf8 word → text_of word ≡ None
no_text word h = by_test (is_utf8 word) (λ e. h (IsUtf8-from_is_utf8 word e))
  where
    by_test : (b : Bool) → (b ≡ true → ⊥) → cond b (Some word) None ≡ None
    by_test true k = absurd (k refl)
    by_test false k = refl

-- a word that is no text
no_utf8 : (word : List ℕ) → text_of word ≡ None → is_utf8 word ≡ false
no_utf8 word h = by_test (is_utf8 word) h
  where
    by_test : (b : Bool) → cond b (Some word) None ≡ None → b ≡ false
    by_test true k = cc
    by_test false k = refl

and_false : (b : Bool) → (b && false) ≡ false
and_false true = refl
and_false false = refl

one_fails : (words : List (Bor (List ℕ))) (i : ℕ) (d : Bor (List ℕ)) → i < length words → is_utf8 (get_or words i d).now ≡ false → list_all is_utf8 (map (λ word. word.now) words) ≡ false
one_fails [] i d within h = absurd (omega arith)
one_fails (word ∷ words) zero d within h = rw h refl
one_fails (word ∷ words) (suc i) d within h = rw (one_fails words i d (omega arith) h) (and_false (is_utf8 word.now))

pub some_fails : (words : List (Bor (List ℕ))) (i : ℕ) (d : Bor (List ℕ)) → i < length words → text_of (get_or words i d).now ≡ None → texts_of (map (λ word. word.now) words) ≡ None
some_fails words i d within h = rw (one_fails words i d within (no_utf8 (get_or words i d).now h)) refl

pub all_read : (words texts : List (Bor (List ℕ))) (i : ℕ) → length words ≤ i → map (λ text. text.now) texts ≡ map (λ word. word.now) (take i words)
    → list_all (λ word. is_utf8 word.now) (take i words) ≡ true → texts_of (map (λ word. word.now) words) ≡ Some (map (λ text. text.now) texts)
all_read words texts i whole same utf8 =
    let all : take i words ≡ words = take_all i words whole in
    let passes : list_all is_utf8 (map (λ word. word.now) words) ≡ true = list_all-map is_utf8 (λ word. word.now) words ∙ (rw all at utf8) in
    rw passes (ap Some (ap (map (λ word. word.now)) (sym all) ∙ sym same))
