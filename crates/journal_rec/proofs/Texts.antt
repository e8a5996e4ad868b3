-- Whether bytes are a text, as a test.
use Rattle.std.proofs.Common.{◌≡◌, ℕ, Bool, true, false, List, Some, None, refl}
use Rattle.std.specs.Prelude.{not, ◌&&◌}
use Rattle.std.specs.Int.{w16}
use Rattle.std.specs.Str.{is_utf8}
use Rattle.std.proofs.lemmas.Str.{IsUtf8-from_is_utf8, is_utf8-from_IsUtf8}
use Rattle.sql_base.specs.Text.{has_zero, IsText}
use Rattle.sql_base.specs.declared.values.Value.TheVariants.{Text}
use Rattle.journal_rec.specs.Reading.{number_at, front_at, bytes_at, is_text, text_at}

pub text_passes : (bytes : List ℕ) → IsText bytes → is_text bytes ≡ true
text_passes bytes is = rw (is_utf8-from_IsUtf8 bytes is.0, is.1) refl

pub passing_text : (bytes : List ℕ) → is_text bytes ≡ true → IsText bytes
passing_text bytes passes = cases (is_utf8 bytes) (has_zero bytes) refl refl passes
  where
    cases : (utf8 zeros : Bool) → is_utf8 bytes ≡ utf8 → has_zero bytes ≡ zeros → (utf8 && not zeros) ≡ true → IsText bytes
    cases true false u z h = (IsUtf8-from_is_utf8 bytes u, z)
    cases true true u z h = absurd cc
    cases false zeros u z h = absurd cc

pub no_text_fails : (bytes : List ℕ) → ¬ IsText bytes → is_text bytes ≡ false
no_text_fails bytes none = cases (is_text bytes) refl
  where
    cases : (b : Bool) → is_text bytes ≡ b → is_text bytes ≡ false
    cases true e = absurd (none (passing_text bytes e))
    cases false e = e

module _ (bytes a text rest : List ℕ) (n : ℕ) (length_is : number_at w16 bytes ≡ Some (n, a)) (front_is : front_at n a ≡ Some (text, rest)) where
  pub text_read : IsText text → text_at bytes ≡ Some (Text text, rest)
  unfolding text_at bytes_at
  text_read is = rw (length_is, front_is, text_passes text is) refl

  pub no_text_read : ¬ IsText text → text_at bytes ≡ None
  unfolding text_at bytes_at
  no_text_read none = rw (length_is, front_is, no_text_fails text none) refl
