-- Which values are texts, as a test.
use Rattle.std.proofs.Common.{◌≡◌, ℕ, ◌≤◌, List, Bool, true, false, not, ◌&&◌, refl, length, Option, Some, None, nat_le, MatchOption, IfOk, Result, Ok, Err, if◌then◌else◌}
use Rattle.std.specs.Str.{is_utf8}
use Rattle.std.proofs.lemmas.Str.{IsUtf8-from_is_utf8, is_utf8-from_IsUtf8}
use Rattle.std.proofs.lemmas.Bool.{le-leb}
use Rattle.sql_base.specs.Text.{has_zero, IsText}
use Rattle.sql_text.specs.Lexing.{is_short_text, max_text}

pub text_or_none : (value : List ℕ) (found : Option (List ℕ)) → length value ≤ max_text → MatchOption found (¬ IsText value) (λ text. IsText value × (text ≡ value)) →
    found ≡ (if is_short_text value then Some value else None)
unfolding is_short_text
text_or_none value None short h = by_tests (is_utf8 value) (has_zero value) refl refl
  where
    by_tests : (u z : Bool) → is_utf8 value ≡ u → has_zero value ≡ z → None ≡ (if u && not z && nat_le (length value) max_text then Some value else None)
    by_tests true false e f = absurd (h (IsUtf8-from_is_utf8 value e, f))
    by_tests true true e f = refl
    by_tests false z e f = refl
text_or_none value (Some text) short h =
    rw (h.1, is_utf8-from_IsUtf8 value h.0.0, h.0.1, le-leb (length value) max_text short) refl

pub text_answer : {E : Type 0} (value : List ℕ) (r : Result (Option (List ℕ)) E) → length value ≤ max_text → IfOk r (λ found. MatchOption found (¬ IsText value) (λ text. IsText value × (text ≡ value))) →
    IfOk r (λ found. found ≡ (if is_short_text value then Some value else None))
text_answer value (Ok found) short h = text_or_none value found short h
text_answer value (Err e) short h = tt
