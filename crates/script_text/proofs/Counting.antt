-- Digits are a number.
use Rattle.std.proofs.Common.{◌≡◌, ℕ, zero, suc, Bool, ◌+◌, ◌-◌, ◌*◌, ◌^◌, ◌<◌, ◌≤◌, true, List, [], ◌∷◌, length, take, get_or, refl, rules, arith}
use Rattle.std.specs.Char.{is_ascii_digit, digit_value}
use Rattle.std.specs.List.{list_all}
use Rattle.std.specs.Str.Parse.{digits_value}
use Rattle.std.proofs.lemmas.Bool.{and_parts}
use Rattle.std.proofs.lemmas.Int.Digits.{digits_value_more}
use Rattle.std.proofs.lemmas.Str.Parse.{IsNumeralModel, numerals_by_value, digits_value_short, digits_value-take-le}

passes_at : (is : ℕ → Bool) (bs : List ℕ) (i : ℕ) → list_all is bs ≡ true → i < length bs → is (get_or bs i 0) ≡ true
passes_at is [] i h within = absurd (omega arith)
passes_at is (b ∷ bs) zero h within = (and_parts (is b) (list_all is bs) h).0
passes_at is (b ∷ bs) (suc i) h within = passes_at is bs i (and_parts (is b) (list_all is bs) h).1 (omega arith)

numerals : IsNumeralModel (λ ds. list_all is_ascii_digit ds ≡ true) (digits_value 10)
numerals = numerals_by_value _ (search rules)

small_value : (ds : List ℕ) → list_all is_ascii_digit ds ≡ true → length ds ≤ 9 → digits_value 10 ds < 10 ^ 9
small_value ds h few = digits_value_short numerals ds 9 h few

digit_value-digit : (c : ℕ) → is_ascii_digit c ≡ true → digit_value c ≡ c - 48
digit_value-digit c h = grind arith

-- one more digit
pub record NextDigit (ds : List ℕ) (i : ℕ) : Type 0 where
  pub value : digits_value 10 (take (i + 1) ds) ≡ digits_value 10 (take i ds) * 10 + (get_or ds i 0 - 48)
  pub small : digits_value 10 (take (i + 1) ds) < 10 ^ 9

pub next_digit : (ds : List ℕ) (i : ℕ) → list_all is_ascii_digit ds ≡ true → length ds ≤ 9 → i < length ds → NextDigit ds i
next_digit ds i h few within =
    let digit : is_ascii_digit (get_or ds i 0) ≡ true = passes_at is_ascii_digit ds i h within in
    record {
      value = rw (digits_value_more 10 ds i within, digit_value-digit (get_or ds i 0) digit) refl;
      small = omega (arith, digits_value-take-le 10 ds (i + 1) (omega arith), small_value ds h few);
    }
