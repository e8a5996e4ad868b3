-- Digits are a number.
use Rattle.std.proofs.Common.{◌≡◌, ℕ, ◌&&◌, ◌<◌, ◌≤◌, true, List, length, nat_le, Result, Ok, rules, arith}
use Rattle.std.specs.Char.{is_ascii_digit}
use Rattle.std.specs.List.{list_all}
use Rattle.std.specs.Str.Parse.{ParsesUnsigned, digits_value}
use Rattle.std.proofs.lemmas.Bool.{and_parts, leb-true}
use Rattle.std.proofs.lemmas.Str.Parse.{IsNumeralModel, numerals_by_value, digits_value_short, parse_gives}
use Rattle.words.specs.Numbers.{is_number}

numerals : IsNumeralModel (λ ds. list_all is_ascii_digit ds ≡ true) (digits_value 10)
numerals = numerals_by_value _ (search rules)

pub number_parses : {E : Type 0} (text : List ℕ) (r : Result ℕ E) → ParsesUnsigned 64 10 text r → is_number text ≡ true → r ≡ Ok (digits_value 10 text)
number_parses text r h number =
    let parts = and_parts (list_all is_ascii_digit text && nat_le 1 (length text)) (nat_le (length text) 19) number in
    let front = and_parts (list_all is_ascii_digit text) (nat_le 1 (length text)) parts.0 in
    let some : 0 < length text = omega (arith, leb-true 1 (length text) front.1) in
    let few : length text ≤ 19 = leb-true (length text) 19 parts.1 in
    parse_gives numerals 64 text r h front.0 some (omega (arith, digits_value_short numerals text 19 front.0 few))
