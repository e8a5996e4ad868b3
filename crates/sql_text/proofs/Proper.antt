-- What the tokens of every text are like.
use Rattle.std.proofs.Common.{◌≡◌, ℕ, suc, zero, ◌+◌, ◌-◌, ◌≤◌, ◌^◌, List, [], ◌∷◌, ◌++◌, Bool, true, false, ◌&&◌, ◌==◌, nat_le, if◌then◌else◌, min, Option, Some, None, refl, ap, arith, map, take, drop, length, length}
use Rattle.std.specs.List.{list_all, prefix_len, take_while, AllByRecursion}
use Rattle.std.specs.Char.{is_ascii_digit, to_ascii_lowercase}
use Rattle.std.specs.Str.{str_to_ascii_lowercase}
use Rattle.std.specs.Str.Parse.{digits_value}
use Rattle.std.proofs.lemmas.List.{length-map}
use Rattle.std.proofs.lemmas.Bool.{and_parts, le-leb}
use Rattle.std.proofs.lemmas.Bool.Decides.{nat_tests}
use Rattle.sql_text.specs.declared.keys.Key.{Key}
use Rattle.sql_text.specs.declared.tokens.Sign.{Sign}
use Rattle.sql_text.specs.declared.tokens.Token.{Token}
use Rattle.sql_text.specs.declared.tokens.Token.TheVariants as t
use Rattle.sql_text.specs.declared.tokens.Placed.{Placed}
use Rattle.sql_text.specs.Keys.{key_of}
use Rattle.sql_text.specs.Lexing.{is_blank, is_word_byte, is_small_byte, begins, is_name, max_name, named, word_token, quoted_token, literal, text_token, is_short_text, sign_token, sign_or, first_two, byte_token, single, one_byte, first, lexed}
use Rattle.sql_text.specs.Laws.{IsProper, TokensAreProper, TokensEnd, PlacesAreInside}
use Rattle.sql_text.proofs.Runs.{all_of_run}

-- ---- every token

folded_byte : (b : ℕ) → is_word_byte b ≡ true → is_small_byte (to_ascii_lowercase b) ≡ true
unfolding is_word_byte is_small_byte
folded_byte b h = grind (arith, nat_tests)

folded_all : (bs : List ℕ) → list_all is_word_byte bs ≡ true → list_all is_small_byte (str_to_ascii_lowercase bs) ≡ true
folded_all [] h = refl
folded_all (b ∷ bs) h = let parts = and_parts (is_word_byte b) (list_all is_word_byte bs) h in rw (folded_byte b parts.0) (folded_all bs parts.1)

folded_digit : (b : ℕ) → is_ascii_digit b ≡ false → is_ascii_digit (to_ascii_lowercase b) ≡ false
folded_digit b h = grind (arith, nat_tests)

word_proper : (b : ℕ) (bs : List ℕ) → list_all is_word_byte (b ∷ bs) ≡ true → is_ascii_digit b ≡ false → IsProper (word_token (b ∷ bs))
unfolding is_name
word_proper b bs all no_digit = by_key (key_of (b ∷ bs))
  where
    by_length : (s : Bool) → nat_le (length (b ∷ bs)) max_name ≡ s → IsProper (if s then t.Name (str_to_ascii_lowercase (b ∷ bs)) else t.Bad)
    by_length true e =
        let small : list_all is_small_byte (str_to_ascii_lowercase (b ∷ bs)) ≡ true = folded_all (b ∷ bs) all in
        let long : length (str_to_ascii_lowercase (b ∷ bs)) ≡ length (b ∷ bs) = length-map (b ∷ bs) to_ascii_lowercase in
        rw (small, long, e, folded_digit b no_digit) (rw (le-leb 1 (length (b ∷ bs)) (omega arith)) refl)
    by_length false e = tt

    by_key : (o : Option Key) → IsProper (named (b ∷ bs) o)
    by_key (Some key) = tt
    by_key None = by_length (nat_le (length (b ∷ bs)) max_name) refl

abbrev FirstIsProper : Token × ℕ → Type 0
FirstIsProper found = IsProper found.0

number_proper : (digits : List ℕ) → IsProper (t.Int (min (digits_value 10 digits) (2 ^ 64 - 1)))
number_proper digits = omega arith

quoted_proper : (rest : List ℕ) → IsProper (quoted_token rest).0
quoted_proper rest = by_test (is_name (take_while is_small_byte rest)) (begins (λ b. b == 34) (drop (length (take_while is_small_byte rest)) rest)) refl
  where
    by_test : (n q : Bool) → is_name (take_while is_small_byte rest) ≡ n →
        FirstIsProper ((if n && q then (t.Quoted (take_while is_small_byte rest), length (take_while is_small_byte rest) + 2) else (t.Bad, 1)))
    by_test true true e = e
    by_test true false e = tt
    by_test false q e = tt

text_proper : (found : Option (List ℕ × ℕ)) → IsProper (text_token found).0
text_proper None = tt
text_proper (Some (value, len)) = by_test (is_short_text value) refl
  where
    by_test : (s : Bool) → is_short_text value ≡ s → FirstIsProper ((if s then (t.Text value, len + 1) else (t.Bad, 1)))
    by_test true e = e
    by_test false e = tt

sign_proper : (two : Option Sign) (token : Token) → IsProper token → IsProper (sign_or two token).0
sign_proper None token h = h
sign_proper (Some s) token h = tt

single_proper : (one : Option Sign) → IsProper (single one)
single_proper None = tt
single_proper (Some s) = tt

byte_proper : (text : List ℕ) → IsProper (byte_token text)
byte_proper [] = tt
byte_proper (a ∷ rest) = by_test (a == 45)
  where
    by_test : (m : Bool) → IsProper (if m then t.Minus (begins is_ascii_digit rest) else single (one_byte a))
    by_test true = tt
    by_test false = single_proper (one_byte a)

begins_take : (is : ℕ → Bool) (n : ℕ) (text : List ℕ) → begins is text ≡ false → begins is (take n text) ≡ false
begins_take is zero text h = refl
begins_take is (suc n) [] h = refl
begins_take is (suc n) (b ∷ bs) h = h

some_run : (is : ℕ → Bool) (text : List ℕ) → begins is text ≡ true → 1 ≤ length (take (prefix_len is text) text)
some_run is [] h = absurd cc
some_run is (b ∷ bs) h = let on : 1 + prefix_len is bs ≡ suc (prefix_len is bs) = omega arith in rw (h, on) (omega arith)

words_proper : (word : List ℕ) → list_all is_word_byte word ≡ true → begins is_ascii_digit word ≡ false → 1 ≤ length word → IsProper (word_token word)
words_proper [] all no_digit some = absurd (omega arith)
words_proper (b ∷ bs) all no_digit some = word_proper b bs all no_digit

first_proper : (text : List ℕ) → FirstIsProper (first text)
unfolding first
first_proper text = by_digit (begins is_ascii_digit text) refl
  where
    by_quote : (q a : Bool) → FirstIsProper (if q then quoted_token (drop 1 text) else (if a then text_token (literal false (drop 1 text)) else sign_token text))
    by_quote true a = quoted_proper (drop 1 text)
    by_quote false true = text_proper (literal false (drop 1 text))
    by_quote false false = sign_proper (first_two text) (byte_token text) (byte_proper text)

    by_word : (w : Bool) → begins is_word_byte text ≡ w → begins is_ascii_digit text ≡ false →
        FirstIsProper (if w then (word_token (take_while is_word_byte text), prefix_len is_word_byte text) else (if begins (λ b. b == 34) text then quoted_token (drop 1 text) else (if begins (λ b. b == 39) text then text_token (literal false (drop 1 text)) else sign_token text)))
    by_word true e no_digit = words_proper (take_while is_word_byte text) (all_of_run is_word_byte text) (begins_take is_ascii_digit (prefix_len is_word_byte text) text no_digit) (some_run is_word_byte text e)
    by_word false e no_digit = by_quote (begins (λ b. b == 34) text) (begins (λ b. b == 39) text)

    by_digit : (d : Bool) → begins is_ascii_digit text ≡ d →
        FirstIsProper (if d then (t.Int (min (digits_value 10 (take_while is_ascii_digit text)) (2 ^ 64 - 1)), prefix_len is_ascii_digit text) else
        (if begins is_word_byte text then (word_token (take_while is_word_byte text), prefix_len is_word_byte text) else (if begins (λ b. b == 34) text then quoted_token (drop 1 text) else (if begins (λ b. b == 39) text then text_token (literal false (drop 1 text)) else sign_token text))))
    by_digit true e = number_proper (take_while is_ascii_digit text)
    by_digit false e = by_word (begins is_word_byte text) refl e

abbrev kinds : List Placed → List Token
kinds ps = map (λ p. p.token) ps

all_proper : (at skip : ℕ) (bs : List ℕ) → AllByRecursion IsProper (kinds (lexed at skip bs))
unfolding lexed
all_proper at skip [] = (tt, tt)
all_proper at (suc skip) (b ∷ bs) = all_proper (at + 1) skip bs
all_proper at zero (b ∷ bs) =
    elim (is_blank b) as (λ s. AllByRecursion IsProper (kinds (if s then lexed (at + 1) 0 bs else (record { at = at; token = (first (b ∷ bs)).0 } ∷ lexed (at + 1) ((first (b ∷ bs)).1 - 1) bs)))) [
      | true ↦ all_proper (at + 1) 0 bs
      | false ↦ (first_proper (b ∷ bs), all_proper (at + 1) ((first (b ∷ bs)).1 - 1) bs)
    ]

pub tokens_are_proper : TokensAreProper
tokens_are_proper text = all_proper 0 0 text

-- ---- the end

Ended : List Token → Type 0
Ended ts = (xs : List Token) × (ts ≡ xs ++ t.End ∷ [])

more_ended : (x : Token) (ts : List Token) → Ended ts → Ended (x ∷ ts)
unfolding Ended
more_ended x ts h = (x ∷ h.0, ap (λ ts. x ∷ ts) h.1)

ended : (at skip : ℕ) (bs : List ℕ) → Ended (kinds (lexed at skip bs))
unfolding lexed Ended
ended at skip [] = ([], refl)
ended at (suc skip) (b ∷ bs) = ended (at + 1) skip bs
ended at zero (b ∷ bs) =
    elim (is_blank b) as (λ s. Ended (kinds (if s then lexed (at + 1) 0 bs else (record { at = at; token = (first (b ∷ bs)).0 } ∷ lexed (at + 1) ((first (b ∷ bs)).1 - 1) bs)))) [
      | true ↦ ended (at + 1) 0 bs
      | false ↦ more_ended (first (b ∷ bs)).0 (kinds (lexed (at + 1) ((first (b ∷ bs)).1 - 1) bs)) (ended (at + 1) ((first (b ∷ bs)).1 - 1) bs)
    ]

pub tokens_end : TokensEnd
unfolding Ended
tokens_end text = ended 0 0 text

-- ---- places

abbrev Within : ℕ → List Placed → Type 0
Within last ps = AllByRecursion (λ at. at ≤ last) (map (λ p. p.at) ps)

within : (last at skip : ℕ) (bs : List ℕ) → at + length bs ≤ last → Within last (lexed at skip bs)
unfolding lexed
within last at skip [] h = (omega arith, tt)
within last at (suc skip) (b ∷ bs) h = within last (at + 1) skip bs (omega arith)
within last at zero (b ∷ bs) h =
    elim (is_blank b) as (λ s. Within last (if s then lexed (at + 1) 0 bs else (record { at = at; token = (first (b ∷ bs)).0 } ∷ lexed (at + 1) ((first (b ∷ bs)).1 - 1) bs))) [
      | true ↦ within last (at + 1) 0 bs (omega arith)
      | false ↦ (omega arith, within last (at + 1) ((first (b ∷ bs)).1 - 1) bs (omega arith))
    ]

pub places_are_inside : PlacesAreInside
places_are_inside text = within (length text) 0 0 text (omega arith)
