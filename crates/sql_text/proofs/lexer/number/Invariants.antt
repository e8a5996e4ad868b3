use Rattle.std.proofs.Common.{◌≡◌, ◌≤◌, ◌^◌, ◌-◌, min, drop, true}
use Rattle.std.specs.Char.{is_ascii_digit}
use Rattle.std.specs.List.{list_all}
use Rattle.std.specs.Str.Parse.{digits_value, digits_value_after}
use Rattle.sql_text.proofs.lexer.number.Given as goal

abbrev pub invariant-loop-digit : goal.invariant-loop-digit
invariant-loop-digit l =
    (l.n ≤ 2 ^ 64 - 1)
    × (list_all is_ascii_digit (drop l.digit-index l.digits) ≡ true)
    × (min (digits_value_after 10 l.n (drop l.digit-index l.digits)) (2 ^ 64 - 1) ≡ min (digits_value 10 l.digits) (2 ^ 64 - 1))
