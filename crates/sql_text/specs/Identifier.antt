-- Identifiers: what a text that is one, and nothing more, names.
use Rattle.std.specs.Prelude.{◌≡◌, ◌⊎◌, ℕ, ◌-◌, List, [], ◌∷◌, Bool, not, ◌&&◌, ◌==◌, nat_le, length, take, drop, Option, Some, None, if◌then◌else◌}
use Rattle.std.specs.Char.{is_ascii_digit}
use Rattle.std.specs.List.{list_all}
use Rattle.std.specs.Option.{option_and_then}
use Rattle.std.specs.Str.{byte, bytes_eq, str_to_ascii_lowercase}
use Rattle.sql_text.specs.Keys.{is_reserved}
use Rattle.sql_text.specs.Lexing.{begins, is_name, is_word_byte, max_name, tokens_of}
use Rattle.sql_text.specs.declared.tokens.Token.TheVariants as t

-- A plain identifier: a letter or `_`, then letters, digits and `_`, at most 63 bytes in all. It is no key word.
unfoldable pub is_plain : List ℕ → Bool
is_plain word = list_all is_word_byte word && nat_le 1 (length word) && nat_le (length word) max_name && not (begins is_ascii_digit word) && not (is_reserved word)

-- A plain identifier is the name that it spells, with ASCII capitals as small letters.
unfoldable pub plain_name : List ℕ → Option (List ℕ)
plain_name word = if is_plain word then Some (str_to_ascii_lowercase word) else None

-- what stands before the quote at the end, if one stands there
abbrev pub before_quote : List ℕ → Option (List ℕ)
before_quote text = if bytes_eq (drop (length text - 1) text) (byte "\"" ∷ []) then Some (take (length text - 1) text) else None

abbrev pub only_name : List ℕ → Option (List ℕ)
only_name word = if is_name word then Some word else None

-- Behind the opening quote of a quoted identifier: the name, and the closing quote.
unfoldable pub quoted_name : List ℕ → Option (List ℕ)
quoted_name rest = option_and_then only_name (before_quote rest)

-- what follows the quote at the front, if one stands there
abbrev pub behind_quote : List ℕ → Option (List ℕ)
behind_quote [] = None
behind_quote (b ∷ rest) = if b == byte "\"" then Some rest else None

abbrev pub name_with : List ℕ → Option (List ℕ) → Option (List ℕ)
name_with text None = plain_name text
name_with text (Some rest) = quoted_name rest

-- the name that a text is an identifier of, plain or between double quotes
abbrev pub name_in : List ℕ → Option (List ℕ)
name_in text = name_with text (behind_quote text)

-- An identifier is one token of its text, and that is its name.
abbrev pub IdentifiersAreNames : Type 0
IdentifiersAreNames =
    (text name : List ℕ) → name_in text ≡ Some name →
    (tokens_of text ≡ t.Name name ∷ t.End ∷ []) ⊎ (tokens_of text ≡ t.Quoted name ∷ t.End ∷ [])
