-- An identifier is one token of its text, and that is a name.
use Rattle.std.proofs.Common.{◌≡◌, inl, inr, ◌⊎◌, ℕ, ◌-◌, Bool, true, false, not, ◌&&◌, ◌==◌, cond, nat_le, List, [], ◌∷◌, ◌++◌, length, take, drop, Option, Some, None, is_some, refl, sym, ap, ◌∙◌, arith, append-nil}
use Rattle.std.specs.Char.{is_ascii_digit}
use Rattle.std.specs.List.{list_all}
use Rattle.std.specs.Option.{option_and_then}
use Rattle.std.specs.Str.{byte, bytes_eq, str_to_ascii_lowercase}
use Rattle.std.proofs.lemmas.Bool.{and_parts}
use Rattle.std.proofs.lemmas.Bool.Decides.{nat_tests}
use Rattle.std.proofs.lemmas.List.{take-append-drop}
use Rattle.std.proofs.lemmas.Option.{cond_some}
use Rattle.std.proofs.lemmas.Slice.Eq.{bytes_eq-Decides}
use Rattle.sql_text.specs.declared.keys.Key.{Key}
use Rattle.sql_text.specs.declared.tokens.Token.{Token}
use Rattle.sql_text.specs.declared.tokens.Token.TheVariants as t
use Rattle.sql_text.specs.Identifier.{IdentifiersAreNames, is_plain, plain_name, before_quote, only_name, quoted_name, name_with}
use Rattle.sql_text.specs.Keys.{is_reserved, key_of}
use Rattle.sql_text.specs.Lexing.{begins, is_blank, is_name, is_word_byte, max_name, named, tokens_of, word_token}
use Rattle.sql_text.proofs.Pieces.{toks, placeless, end_piece}
use Rattle.sql_text.proofs.Words.{Stops, word_lexes, quoted_lexes}

stops_end : Stops []
stops_end = record { word = refl; digit = refl; quote = refl }

is_false : (b : Bool) → not b ≡ true → b ≡ false
is_false false h = refl
is_false true h = absurd cc

is_none : (o : Option Key) → not (is_some o) ≡ true → o ≡ None
is_none None h = refl
is_none (Some key) h = absurd cc

word_seen : (b : ℕ) → is_word_byte b ≡ true → is_blank b ≡ false
unfolding is_word_byte is_blank
word_seen b h = grind (arith, nat_tests)

-- the tokens of a text that is one word
one_word : (b : ℕ) (bs : List ℕ) → list_all is_word_byte (b ∷ bs) ≡ true → is_ascii_digit b ≡ false → tokens_of (b ∷ bs) ≡ word_token (b ∷ bs) ∷ t.End ∷ []
one_word b bs all no_digit =
    let seen = word_seen b (and_parts (is_word_byte b) (list_all is_word_byte bs) all).0 in
    let lexes : toks 0 (b ∷ bs ++ []) ≡ word_token (b ∷ bs) ∷ toks 0 [] = word_lexes b bs [] all no_digit seen stops_end in
    placeless 0 0 (b ∷ bs) ∙ (rw (append-nil (b ∷ bs)) at lexes) ∙ ap (λ ts. word_token (b ∷ bs) ∷ ts) end_piece

named_is : (word : List ℕ) (key : Option Key) → key ≡ None → nat_le (length word) max_name ≡ true → named word key ≡ t.Name (str_to_ascii_lowercase word)
named_is word key free short = rw (free, short) refl

plain_lexed : (word : List ℕ) → is_plain word ≡ true → tokens_of word ≡ t.Name (str_to_ascii_lowercase word) ∷ t.End ∷ []
unfolding is_plain
plain_lexed [] h = absurd cc
plain_lexed (b ∷ bs) h =
    let word = b ∷ bs in
    let all = list_all is_word_byte word in
    let some = nat_le 1 (length word) in
    let short = nat_le (length word) max_name in
    let no_digit = not (begins is_ascii_digit word) in
    let one = and_parts (all && some && short && no_digit) (not (is_reserved word)) h in
    let two = and_parts (all && some && short) no_digit one.0 in
    let three = and_parts (all && some) short two.0 in
    let four = and_parts all some three.0 in
    one_word b bs four.0 (is_false (is_ascii_digit b) two.1) ∙ ap (λ (x : Token). x ∷ t.End ∷ []) (named_is word (key_of word) (is_none (key_of word) one.1) three.1)

plain_is : (word name : List ℕ) → plain_name word ≡ Some name → tokens_of word ≡ t.Name name ∷ t.End ∷ []
unfolding plain_name
plain_is word name h =
    let parts = cond_some (is_plain word) (str_to_ascii_lowercase word) name h in
    plain_lexed word parts.0 ∙ ap (λ (n : List ℕ). t.Name n ∷ t.End ∷ []) parts.1

before_is : (text word : List ℕ) → before_quote text ≡ Some word → text ≡ word ++ byte "\"" ∷ []
before_is text word h =
    let n = length text - 1 in
    let parts = cond_some (bytes_eq (drop n text) (byte "\"" ∷ [])) (take n text) word h in
    let last : drop n text ≡ byte "\"" ∷ [] = (bytes_eq-Decides (drop n text) (byte "\"" ∷ [])).0 parts.0 in
    sym (take-append-drop n text) ∙ rw (last, parts.1) refl

quoted_lexed : (name : List ℕ) → is_name name ≡ true → tokens_of (34 ∷ name ++ 34 ∷ []) ≡ t.Quoted name ∷ t.End ∷ []
quoted_lexed name h = placeless 0 0 (34 ∷ name ++ 34 ∷ []) ∙ quoted_lexes name [] h ∙ ap (λ ts. t.Quoted name ∷ ts) end_piece

quoted_is : (rest name : List ℕ) → quoted_name rest ≡ Some name → tokens_of (34 ∷ rest) ≡ t.Quoted name ∷ t.End ∷ []
unfolding quoted_name
quoted_is rest name h = by_end (before_quote rest) refl h
  where
    by_end : (o : Option (List ℕ)) → before_quote rest ≡ o → option_and_then only_name o ≡ Some name → tokens_of (34 ∷ rest) ≡ t.Quoted name ∷ t.End ∷ []
    by_end None e k = absurd cc
    by_end (Some word) e k =
        let parts = cond_some (is_name word) word name k in
        let whole : rest ≡ word ++ 34 ∷ [] = before_is rest word e in
        rw whole (quoted_lexed word parts.0) ∙ ap (λ (n : List ℕ). t.Quoted n ∷ t.End ∷ []) parts.1

pub identified : IdentifiersAreNames
identified [] name h = inl (plain_is [] name h)
identified (b ∷ rest) name h = by_front (b == byte "\"") refl h
  where
    by_front : (q : Bool) → (b == byte "\"") ≡ q → name_with (b ∷ rest) (cond q (Some rest) None) ≡ Some name →
        (tokens_of (b ∷ rest) ≡ t.Name name ∷ t.End ∷ []) ⊎ (tokens_of (b ∷ rest) ≡ t.Quoted name ∷ t.End ∷ [])
    by_front true e k =
        let first : b ≡ 34 = grind (arith, e) in
        inr (ap (λ (c : ℕ). tokens_of (c ∷ rest)) first ∙ quoted_is rest name k)
    by_front false e k = inl (plain_is (b ∷ rest) name k)
