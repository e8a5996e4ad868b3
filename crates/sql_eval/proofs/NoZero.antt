-- Texts without the byte 0.
use Rattle.std.proofs.Common.{◌≡◌, ℕ, suc, List, [], ◌∷◌, true, false, map, refl, arith, pos, negsuc, ℤ, SFits, w64}
use Rattle.std.specs.Prelude.{reverse}
use Rattle.std.specs.Char.{to_ascii_lowercase, to_ascii_uppercase}
use Rattle.std.specs.Fmt.{decimal, signed_decimal}
use Rattle.std.specs.Str.{all_ascii_digits}
use Rattle.std.specs.Str.Parse.{digits_value}
use Rattle.std.proofs.lemmas.Fmt.{digits_decimal}
use Rattle.std.proofs.lemmas.List.{reverse-append}
use Rattle.std.proofs.lemmas.List.Folds.{list_any-append}
use Rattle.std.proofs.lemmas.Str.Parse.{numerals_by_value, tells_all_ascii_digits, IsNumeralModel}
use Rattle.sql_base.specs.Text.{has_zero}
use Rattle.sql_eval.specs.Cast.{trim_front, trimmed}

pub has_zero-lower : (bs : List ℕ) → has_zero bs ≡ false → has_zero (map to_ascii_lowercase bs) ≡ false
has_zero-lower [] h = refl
has_zero-lower (b ∷ bs) h = grind (arith, has_zero-lower bs)

pub has_zero-upper : (bs : List ℕ) → has_zero bs ≡ false → has_zero (map to_ascii_uppercase bs) ≡ false
has_zero-upper [] h = refl
has_zero-upper (b ∷ bs) h = grind (arith, has_zero-upper bs)

has_zero-trim_front : (bs : List ℕ) → has_zero bs ≡ false → has_zero (trim_front bs) ≡ false
has_zero-trim_front [] h = refl
has_zero-trim_front (b ∷ bs) h = grind (arith, has_zero-trim_front bs)

has_zero-reverse : (bs : List ℕ) → has_zero bs ≡ false → has_zero (reverse bs) ≡ false
has_zero-reverse [] h = refl
has_zero-reverse (b ∷ bs) h = rw (reverse-append (b ∷ []) bs, list_any-append) (grind (arith, has_zero-reverse bs))

pub has_zero-trimmed : (bs : List ℕ) → has_zero bs ≡ false → has_zero (trimmed bs) ≡ false
has_zero-trimmed bs h =
    let front = has_zero-reverse (trim_front bs) (has_zero-trim_front bs h) in
    has_zero-reverse (trim_front (reverse (trim_front bs))) (has_zero-trim_front (reverse (trim_front bs)) front)

has_zero-digits : (bs : List ℕ) → all_ascii_digits bs ≡ true → has_zero bs ≡ false
has_zero-digits [] h = refl
has_zero-digits (b ∷ bs) h = grind (arith, has_zero-digits bs)

digits : IsNumeralModel (λ ds. all_ascii_digits ds ≡ true) (digits_value 10)
digits = numerals_by_value _ tells_all_ascii_digits

pub has_zero-signed_decimal : (z : ℤ) → SFits w64 z → has_zero (signed_decimal z) ≡ false
has_zero-signed_decimal (pos n) h = has_zero-digits (decimal n) (digits_decimal digits n (omega (arith, h)))
has_zero-signed_decimal (negsuc n) h = has_zero-digits (decimal (suc n)) (digits_decimal digits (suc n) (omega (arith, h)))
