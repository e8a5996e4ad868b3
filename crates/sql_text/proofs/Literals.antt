-- A text literal, read on from a place within it.
use Rattle.std.proofs.Common.{◌≡◌, ℕ, ◌+◌, ◌<◌, List, [], ◌∷◌, ◌++◌, true, false, ◌==◌, Option, Some, None, refl, ap, ◌∙◌, arith, append_assoc, append-nil, drop, length, get_or, add-one, drop-cons}
use Rattle.sql_text.specs.Lexing.{one_more, literal}

-- the whole literal, where this much of it was passed
abbrev pub behind : List ℕ → ℕ → Option (List ℕ × ℕ) → Option (List ℕ × ℕ)
behind front len None = None
behind front len (Some (value, more)) = Some (front ++ value, len + more)

one_passed : (front bytes : List ℕ) (at : ℕ) (found : Option (List ℕ × ℕ)) → behind front at (one_more bytes found) ≡ behind (front ++ bytes) (at + 1) found
one_passed front bytes at None = refl
one_passed front bytes at (Some (value, len)) =
    let place : at + (len + 1) ≡ (at + 1) + len = omega arith in rw (append_assoc, place) refl

front_of : (text : List ℕ) (at : ℕ) → at < length text → drop at text ≡ get_or text at 0 ∷ drop (at + 1) text
front_of text at h = rw add-one (drop-cons text at 0 h)

module _ (text front : List ℕ) (at : ℕ) (inside : at < length text) where
  -- a byte of the value
  pub passed_byte : (get_or text at 0 == 39) ≡ false →
      behind front at (literal false (drop at text)) ≡ behind (front ++ get_or text at 0 ∷ []) (at + 1) (literal false (drop (at + 1) text))
  passed_byte e = rw (front_of text at inside, e) (one_passed front (get_or text at 0 ∷ []) at (literal false (drop (at + 1) text)))

  -- the first of two quotes, or the closing one
  pub passed_quote : (get_or text at 0 == 39) ≡ true →
      behind front at (literal false (drop at text)) ≡ behind front (at + 1) (literal true (drop (at + 1) text))
  passed_quote e =
      rw (front_of text at inside, e) (one_passed front [] at (literal true (drop (at + 1) text)) ∙ ap (λ xs. behind xs (at + 1) (literal true (drop (at + 1) text))) (append-nil front))

  -- the second of two quotes
  pub passed_double : (get_or text at 0 == 39) ≡ true →
      behind front at (literal true (drop at text)) ≡ behind (front ++ get_or text at 0 ∷ []) (at + 1) (literal false (drop (at + 1) text))
  passed_double e = rw (front_of text at inside, e) (one_passed front (get_or text at 0 ∷ []) at (literal false (drop (at + 1) text)))

  -- the byte behind the closing quote
  pub passed_end : (get_or text at 0 == 39) ≡ false → behind front at (literal true (drop at text)) ≡ Some (front, at)
  passed_end e = rw (front_of text at inside, e, append-nil) (let none : at + 0 ≡ at = omega arith in ap (λ n. Some (front, n)) none)
