-- Bytes to tokens: each token is the longest that begins where the one before ended, blanks aside.
use Rattle.std.specs.Prelude.{ℕ, suc, zero, ◌+◌, ◌-◌, ◌^◌, List, [], ◌∷◌, ◌++◌, Bool, true, false, not, ◌&&◌, ◌||◌, ◌==◌, nat_le, if◌then◌else◌, length, min, drop, map, Option, Some, None}
use Rattle.std.specs.Char.{is_ascii_alphanumeric, is_ascii_lowercase, is_ascii_digit}
use Rattle.std.specs.List.{list_all, prefix_len, take_while}
use Rattle.std.specs.Str.{byte, is_utf8, str_to_ascii_lowercase}
use Rattle.std.specs.Str.Parse.{digits_value}
use Rattle.sql_base.specs.Text.{has_zero}
use Rattle.sql_text.specs.declared.keys.Key.{Key}
use Rattle.sql_text.specs.declared.scan.Class.{Class}
use Rattle.sql_text.specs.declared.scan.Class.TheVariants as class
use Rattle.sql_text.specs.declared.tokens.Sign.{Sign}
use Rattle.sql_text.specs.declared.tokens.Sign.TheVariants as s
use Rattle.sql_text.specs.declared.tokens.Token.{Token}
use Rattle.sql_text.specs.declared.tokens.Token.TheVariants as t
use Rattle.sql_text.specs.declared.tokens.Placed.{Placed}
use Rattle.sql_text.specs.Keys.{key_of}

-- ---- bytes that stand together

-- between tokens: space, tab and carriage return
unfoldable pub is_blank : ℕ → Bool
is_blank b = b == 32 || b == 9 || b == 13

-- in words: letters, digits and `_`
unfoldable pub is_word_byte : ℕ → Bool
is_word_byte b = is_ascii_alphanumeric b || b == byte "_"

-- in identifiers whose letters are small
unfoldable pub is_small_byte : ℕ → Bool
is_small_byte b = is_ascii_lowercase b || is_ascii_digit b || b == byte "_"

abbrev pub belongs : Class → ℕ → Bool
belongs class.Blank = is_blank
belongs class.Word = is_word_byte
belongs class.Small = is_small_byte
belongs class.Digit = is_ascii_digit

-- a byte of the kind comes first
abbrev pub begins : (ℕ → Bool) → List ℕ → Bool
begins is [] = false
begins is (b ∷ bs) = is b

-- ---- words and numbers

-- the bytes that an identifier may have
abbrev pub max_name : ℕ
max_name = 63

-- an identifier whose letters are small
unfoldable pub is_name : List ℕ → Bool
is_name word = list_all is_small_byte word && nat_le 1 (length word) && nat_le (length word) max_name && not (begins is_ascii_digit word)

abbrev pub named : List ℕ → Option Key → Token
named word (Some key) = t.Key key
named word None = if nat_le (length word) max_name then t.Name (str_to_ascii_lowercase word) else t.Bad

-- a key word, or else a plain identifier
abbrev pub word_token : List ℕ → Token
word_token word = named word (key_of word)

-- The number stays at 2 ^ 64 - 1 where it is above that.
abbrev pub number_token : List ℕ → Token
number_token digits = t.Int (min (digits_value 10 digits) (2 ^ 64 - 1))

-- what begins no token
abbrev pub bad : Token × ℕ
bad = (t.Bad, 1)

-- Behind the opening quote: an identifier and the closing quote.
abbrev pub quoted_token : List ℕ → Token × ℕ
quoted_token rest =
    let word = take_while is_small_byte rest in
    if is_name word && begins (λ b. b == byte "\"") (drop (length word) rest) then (t.Quoted word, length word + 2) else bad

-- ---- text literals

-- the bytes that the value of a text literal may have
abbrev pub max_text : ℕ
max_text = 4096

-- UTF-8 without the byte 0, of at most 4,096 bytes
unfoldable pub is_short_text : List ℕ → Bool
is_short_text value = is_utf8 value && not (has_zero value) && nat_le (length value) max_text

-- a byte more of the literal, with these bytes of its value
abbrev pub one_more : List ℕ → Option (List ℕ × ℕ) → Option (List ℕ × ℕ)
one_more bytes None = None
one_more bytes (Some (value, len)) = Some (bytes ++ value, len + 1)

-- Behind the opening quote: the value, and how many bytes it takes with the closing quote, if there is one. A quote
-- stands for itself where another follows it, and else it is the closing one; the flag says that one was just passed.
abbrev pub literal : Bool → List ℕ → Option (List ℕ × ℕ)
literal false [] = None
literal true [] = Some ([], 0)
literal false (b ∷ bs) = if b == byte "'" then one_more [] (literal true bs) else one_more (b ∷ []) (literal false bs)
literal true (b ∷ bs) = if b == byte "'" then one_more (b ∷ []) (literal false bs) else Some ([], 0)

abbrev pub text_token : Option (List ℕ × ℕ) → Token × ℕ
text_token None = bad
text_token (Some (value, len)) = if is_short_text value then (t.Text value, len + 1) else bad

-- ---- signs

abbrev pub two_bytes : ℕ → ℕ → Option Sign
two_bytes a b =
    if a == byte "<" && b == byte "=" then Some s.Le else
    (if a == byte "<" && b == byte ">" then Some s.Ne else
    (if a == byte ">" && b == byte "=" then Some s.Ge else
    (if a == byte "!" && b == byte "=" then Some s.Ne else
    (if a == byte "|" && b == byte "|" then Some s.Concat else
    (if a == byte ":" && b == byte ":" then Some s.Cast else None)))))

abbrev pub one_byte : ℕ → Option Sign
one_byte a =
    if a == byte "(" then Some s.Open else
    (if a == byte ")" then Some s.Close else
    (if a == byte "," then Some s.Comma else
    (if a == byte ";" then Some s.Semicolon else
    (if a == byte "*" then Some s.Star else
    (if a == byte "/" then Some s.Slash else
    (if a == byte "%" then Some s.Percent else
    (if a == byte "+" then Some s.Plus else
    (if a == byte "=" then Some s.Eq else
    (if a == byte "<" then Some s.Lt else
    (if a == byte ">" then Some s.Gt else None))))))))))

-- a sign of two bytes that comes first
abbrev pub first_two : List ℕ → Option Sign
first_two (a ∷ b ∷ rest) = two_bytes a b
first_two _ = None

abbrev pub single : Option Sign → Token
single None = t.Bad
single (Some sign) = t.Sign sign

-- one byte and what follows it
abbrev pub byte_token : List ℕ → Token
byte_token [] = t.Bad
byte_token (a ∷ rest) = if a == byte "-" then t.Minus (begins is_ascii_digit rest) else single (one_byte a)

abbrev pub sign_or : Option Sign → Token → Token × ℕ
sign_or (Some sign) token = (t.Sign sign, 2)
sign_or None token = (token, 1)

abbrev pub sign_token : List ℕ → Token × ℕ
sign_token text = sign_or (first_two text) (byte_token text)

-- ---- all tokens

-- The token that a text begins with, as long as it can be, and how many bytes it takes.
unfoldable pub first : List ℕ → Token × ℕ
first text =
    if begins is_ascii_digit text then (number_token (take_while is_ascii_digit text), prefix_len is_ascii_digit text) else
    (if begins is_word_byte text then (word_token (take_while is_word_byte text), prefix_len is_word_byte text) else
    (if begins (λ b. b == byte "\"") text then quoted_token (drop 1 text) else
    (if begins (λ b. b == byte "'") text then text_token (literal false (drop 1 text)) else sign_token text)))

-- The tokens of a text with their places, and the end; so many bytes at its front belong to a token that was read.
unfoldable pub lexed : ℕ → ℕ → List ℕ → List Placed
lexed at skip [] = record { at = at; token = t.End } ∷ []
lexed at (suc skip) (b ∷ bs) = lexed (at + 1) skip bs
lexed at zero (b ∷ bs) =
    if is_blank b then lexed (at + 1) 0 bs else (record { at = at; token = (first (b ∷ bs)).0 } ∷ lexed (at + 1) ((first (b ∷ bs)).1 - 1) bs)

-- the tokens of a text
abbrev pub tokens_of : List ℕ → List Token
tokens_of text = map (λ p. p.token) (lexed 0 0 text)

-- their places
abbrev pub places_of : List ℕ → List ℕ
places_of text = map (λ p. p.at) (lexed 0 0 text)
