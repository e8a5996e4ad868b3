-- The numbers among the words.
use Rattle.std.specs.Prelude.{ℕ, List, Bool, ◌&&◌, nat_le, length, Option, None, Some, option_and_then, if◌then◌else◌}
use Rattle.std.specs.Char.{is_ascii_digit}
use Rattle.std.specs.List.{list_all}
use Rattle.std.specs.Str.Parse.{digits_value}

-- 1 to 19 digits
abbrev pub is_number : List ℕ → Bool
is_number text = list_all is_ascii_digit text && nat_le 1 (length text) && nat_le (length text) 19

-- the number that a text is; leading zeros don't matter
abbrev pub number_of : List ℕ → Option ℕ
number_of text = if is_number text then Some (digits_value 10 text) else None

abbrev pub only_between : ℕ → ℕ → ℕ → Option ℕ
only_between least most number =
    if nat_le least number && nat_le number most then Some number else None

-- the number that a text is, where it is one of these
abbrev pub number_between : List ℕ → ℕ → ℕ → Option ℕ
number_between text least most = option_and_then (only_between least most) (number_of text)
