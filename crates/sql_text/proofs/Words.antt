-- Words, numbers, names and texts, whatever follows that isn't a part of them.
use Rattle.std.proofs.Common.{◌≡◌, ℕ, suc, ◌+◌, ◌-◌, ◌%◌, ◌<◌, ◌≤◌, ◌^◌, List, [], ◌∷◌, ◌++◌, Bool, true, false, not, ◌&&◌, ◌==◌, nat_le, if◌then◌else◌, min, Some, None, refl, ap, ◌∙◌, arith, append_assoc, take, codes, length, length-append}
use Rattle.std.specs.Char.{is_ascii_digit, to_ascii_lowercase}
use Rattle.std.specs.List.{list_all, prefix_len, take_while, flat_map}
use Rattle.std.specs.Fmt.{decimal}
use Rattle.std.specs.Str.{str_to_ascii_lowercase}
use Rattle.std.specs.Str.Parse.{digits_value}
use Rattle.std.proofs.lemmas.Bool.{and_parts, le-leb, leb-true}
use Rattle.std.proofs.lemmas.Fmt.{decimal_is_IsNumeral, decimal_by_steps}
use Rattle.std.proofs.Math.Seq.{take-append_seam, drop-append_seam}
use Rattle.std.proofs.lemmas.Bool.Decides.{nat_tests}
use Rattle.std.proofs.lemmas.List.Folds.{list_all-append}
use Rattle.sql_text.specs.declared.keys.Key.TheVariants as k
use Rattle.sql_text.specs.declared.tokens.Token.TheVariants as t
use Rattle.sql_text.specs.Keys.{key_of}
use Rattle.sql_text.specs.Lexing.{is_blank, is_word_byte, is_small_byte, begins, is_name, max_name, word_token, number_token, literal, text_token, is_short_text, first}
use Rattle.sql_text.specs.Printing.{doubled}
use Rattle.sql_text.proofs.Pieces.{toks, one_token}

-- what follows is no part of a word, a number or a text literal
pub record Stops (rest : List ℕ) : Type 0 where
  pub word : begins is_word_byte rest ≡ false
  pub digit : begins is_ascii_digit rest ≡ false
  pub quote : begins (λ b. b == 39) rest ≡ false

-- ---- runs

run_of : (is : ℕ → Bool) (front rest : List ℕ) → list_all is front ≡ true → begins is rest ≡ false → prefix_len is (front ++ rest) ≡ length front
run_of is [] [] all stops = refl
run_of is [] (b ∷ rest) all stops = rw stops refl
run_of is (b ∷ front) rest all stops =
    let parts = and_parts (is b) (list_all is front) all in
    let more : prefix_len is (front ++ rest) ≡ length front = run_of is front rest parts.1 stops in
    rw (parts.0, more) (let one : 1 + length front ≡ suc (length front) = omega arith in one)

front_of_run : (is : ℕ → Bool) (front rest : List ℕ) → list_all is front ≡ true → begins is rest ≡ false → take_while is (front ++ rest) ≡ front
front_of_run is front rest all stops = rw (run_of is front rest all stops) (take-append_seam front rest)

-- ---- words

first_word : (text word : List ℕ) (len : ℕ) → begins is_ascii_digit text ≡ false → begins is_word_byte text ≡ true → prefix_len is_word_byte text ≡ len → take len text ≡ word →
    first text ≡ (word_token word, len)
unfolding first
first_word text word len no_digit one counted is = rw (no_digit, one, counted, is) refl

first_number : (text digits : List ℕ) (len : ℕ) → begins is_ascii_digit text ≡ true → prefix_len is_ascii_digit text ≡ len → take len text ≡ digits → first text ≡ (number_token digits, len)
unfolding first
first_number text digits len one counted is = rw (one, counted, is) refl

-- A word with a first byte that is no digit.
word_found : (b : ℕ) (bs rest : List ℕ) → list_all is_word_byte (b ∷ bs) ≡ true → is_ascii_digit b ≡ false → begins is_word_byte rest ≡ false →
    first (b ∷ bs ++ rest) ≡ (word_token (b ∷ bs), length (b ∷ bs))
word_found b bs rest all no_digit stops =
    first_word (b ∷ bs ++ rest) (b ∷ bs) (length (b ∷ bs)) no_digit (and_parts (is_word_byte b) (list_all is_word_byte bs) all).0
    (run_of is_word_byte (b ∷ bs) rest all stops) (take-append_seam (b ∷ bs) rest)

pub word_lexes : (b : ℕ) (bs rest : List ℕ) → list_all is_word_byte (b ∷ bs) ≡ true → is_ascii_digit b ≡ false → is_blank b ≡ false → Stops rest →
    toks 0 (b ∷ bs ++ rest) ≡ word_token (b ∷ bs) ∷ toks 0 rest
word_lexes b bs rest all no_digit no_blank stops = one_token b bs rest (word_token (b ∷ bs)) no_blank (word_found b bs rest all no_digit stops.word)

-- ---- numbers

digit_of : (n : ℕ) → n < 10 → is_ascii_digit (48 + n) ≡ true
digit_of n h = rw (le-leb 48 (48 + n) (omega arith), le-leb (48 + n) 57 (omega arith)) refl

pub all_digits : (n : ℕ) → n < 2 ^ 64 → list_all is_ascii_digit (decimal n) ≡ true
all_digits n h = decimal_by_steps (λ m ds. list_all is_ascii_digit ds ≡ true)
    (λ m small. rw (digit_of m small) refl)
    (λ m ds big more. rw (list_all-append is_ascii_digit ds ((48 + m % 10) ∷ []), more, digit_of (m % 10) (omega arith)) refl) n h

number_found : (ds rest : List ℕ) → 0 < length ds → list_all is_ascii_digit ds ≡ true → begins is_ascii_digit rest ≡ false → first (ds ++ rest) ≡ (number_token ds, length ds)
number_found [] rest some all stops = absurd (omega arith)
number_found (d ∷ ds) rest some all stops =
    first_number (d ∷ ds ++ rest) (d ∷ ds) (length (d ∷ ds)) (and_parts (is_ascii_digit d) (list_all is_ascii_digit ds) all).0
    (run_of is_ascii_digit (d ∷ ds) rest all stops) (take-append_seam (d ∷ ds) rest)

-- ---- bytes of names

digit_seen : (b : ℕ) → is_ascii_digit b ≡ true → is_blank b ≡ false
unfolding is_blank
digit_seen b h = grind (arith, nat_tests)

small_word : (b : ℕ) → is_small_byte b ≡ true → is_word_byte b ≡ true
unfolding is_small_byte is_word_byte
small_word b h = grind (arith, nat_tests)

small_seen : (b : ℕ) → is_small_byte b ≡ true → is_blank b ≡ false
unfolding is_small_byte is_blank
small_seen b h = grind (arith, nat_tests)

small_low : (b : ℕ) → is_small_byte b ≡ true → to_ascii_lowercase b ≡ b
unfolding is_small_byte
small_low b h = grind (arith, nat_tests)

all_words : (bs : List ℕ) → list_all is_small_byte bs ≡ true → list_all is_word_byte bs ≡ true
all_words [] h = refl
all_words (b ∷ bs) h = let parts = and_parts (is_small_byte b) (list_all is_small_byte bs) h in rw (small_word b parts.0) (all_words bs parts.1)

all_low : (bs : List ℕ) → list_all is_small_byte bs ≡ true → str_to_ascii_lowercase bs ≡ bs
all_low [] h = refl
all_low (b ∷ bs) h = let parts = and_parts (is_small_byte b) (list_all is_small_byte bs) h in rw (small_low b parts.0) (ap (λ cs. b ∷ cs) (all_low bs parts.1))

-- ---- numbers

pub number_lexes : (n : ℕ) (rest : List ℕ) → n < 2 ^ 64 → Stops rest → toks 0 (decimal n ++ rest) ≡ t.Int n ∷ toks 0 rest
number_lexes n rest h stops = by_digits (decimal n) (decimal_is_IsNumeral n h).0.0 (all_digits n h) (decimal_is_IsNumeral n h).1
  where
    by_digits : (ds : List ℕ) → 0 < length ds → list_all is_ascii_digit ds ≡ true → digits_value 10 ds ≡ n → toks 0 (ds ++ rest) ≡ t.Int n ∷ toks 0 rest
    by_digits [] some all is = absurd (omega arith)
    by_digits (d ∷ ds) some all is =
        let least : min n (2 ^ 64 - 1) ≡ n = omega arith in
        let same : number_token (d ∷ ds) ≡ t.Int n = ap (λ v. t.Int (min v (2 ^ 64 - 1))) is ∙ ap t.Int least in
        one_token d ds rest (t.Int n) (digit_seen d (and_parts (is_ascii_digit d) (list_all is_ascii_digit ds) all).0)
        (number_found (d ∷ ds) rest some all stops.digit ∙ ap (λ x. (x, length (d ∷ ds))) same)

-- ---- names

-- what is known of an identifier
pub record Identifier (name : List ℕ) : Type 0 where
  pub small : list_all is_small_byte name ≡ true
  pub some : 1 ≤ length name
  pub short : length name ≤ max_name
  pub begins_well : begins is_ascii_digit name ≡ false

not_true : (b : Bool) → not b ≡ true → b ≡ false
not_true false h = refl
not_true true h = absurd cc

pub identifier : (name : List ℕ) → is_name name ≡ true → Identifier name
unfolding is_name
identifier name h =
    let one = and_parts (list_all is_small_byte name && nat_le 1 (length name) && nat_le (length name) max_name) (not (begins is_ascii_digit name)) h in
    let two = and_parts (list_all is_small_byte name && nat_le 1 (length name)) (nat_le (length name) max_name) one.0 in
    let three = and_parts (list_all is_small_byte name) (nat_le 1 (length name)) two.0 in
    record { small = three.0; some = leb-true 1 (length name) three.1; short = leb-true (length name) max_name two.1; begins_well = not_true (begins is_ascii_digit name) one.1 }

quoted_found : (name rest : List ℕ) → is_name name ≡ true → first (34 ∷ name ++ 34 ∷ rest) ≡ (t.Quoted name, length name + 2)
unfolding first is_word_byte is_small_byte
quoted_found name rest h =
    let all = (identifier name h).small in
    rw (front_of_run is_small_byte name (34 ∷ rest) all refl, h, drop-append_seam name (34 ∷ rest)) refl

quote_seen : is_blank 34 ≡ false
unfolding is_blank
quote_seen = refl

pub quoted_lexes : (name rest : List ℕ) → is_name name ≡ true → toks 0 (34 ∷ name ++ 34 ∷ rest) ≡ t.Quoted name ∷ toks 0 rest
quoted_lexes name rest h =
    let long : length name + 2 ≡ length (34 ∷ name ++ 34 ∷ []) = rw length-append (omega arith) in
    let whole : (name ++ 34 ∷ []) ++ rest ≡ name ++ 34 ∷ rest = append_assoc name (34 ∷ []) rest in
    let found : first (34 ∷ (name ++ 34 ∷ []) ++ rest) ≡ (t.Quoted name, length (34 ∷ name ++ 34 ∷ [])) = rw whole (quoted_found name rest h ∙ ap (λ n. (t.Quoted name, n)) long) in
    rw whole at (one_token 34 (name ++ 34 ∷ []) rest (t.Quoted name) quote_seen found)

pub plain_lexes : (name rest : List ℕ) → is_name name ≡ true → key_of name ≡ None → Stops rest → toks 0 (name ++ rest) ≡ t.Name name ∷ toks 0 rest
plain_lexes [] rest h free stops = absurd (omega (arith, (identifier [] h).some))
plain_lexes (b ∷ bs) rest h free stops =
    let known = identifier (b ∷ bs) h in
    let first_small = (and_parts (is_small_byte b) (list_all is_small_byte bs) known.small).0 in
    let is : word_token (b ∷ bs) ≡ t.Name (b ∷ bs) = rw (free, le-leb (length (b ∷ bs)) max_name known.short, all_low (b ∷ bs) known.small) refl in
    word_lexes b bs rest (all_words (b ∷ bs) known.small) known.begins_well (small_seen b first_small) stops ∙ ap (λ x. x ∷ toks 0 rest) is

-- ---- text literals

-- Behind its opening quote a literal is read back, with its closing quote.
pub literal_read : (text rest : List ℕ) → begins (λ b. b == 39) rest ≡ false → literal false (flat_map doubled text ++ 39 ∷ rest) ≡ Some (text, length (flat_map doubled text) + 1)
literal_read [] [] stops = refl
literal_read [] (r ∷ rest) stops = rw stops refl
literal_read (b ∷ text) rest stops = by_test (b == 39) refl (literal_read text rest stops)
  where
    by_test : (q : Bool) → (b == 39) ≡ q → literal false (flat_map doubled text ++ 39 ∷ rest) ≡ Some (text, length (flat_map doubled text) + 1) →
        literal false ((if q then b ∷ b ∷ [] else b ∷ []) ++ flat_map doubled text ++ 39 ∷ rest) ≡ Some (b ∷ text, length ((if q then b ∷ b ∷ [] else b ∷ []) ++ flat_map doubled text) + 1)
    by_test true e more = rw (e, more) (let same : length (flat_map doubled text) + 1 + 1 + 1 ≡ suc (suc (length (flat_map doubled text))) + 1 = omega arith in ap (λ n. Some (b ∷ text, n)) same)
    by_test false e more = rw (e, more) (let same : length (flat_map doubled text) + 1 + 1 ≡ suc (length (flat_map doubled text)) + 1 = omega arith in ap (λ n. Some (b ∷ text, n)) same)

first_text : (rest : List ℕ) → first (39 ∷ rest) ≡ text_token (literal false rest)
unfolding first is_word_byte
first_text rest = refl

apostrophe_seen : is_blank 39 ≡ false
unfolding is_blank
apostrophe_seen = refl

pub text_lexes : (text rest : List ℕ) → is_short_text text ≡ true → Stops rest → toks 0 (39 ∷ flat_map doubled text ++ 39 ∷ rest) ≡ t.Text text ∷ toks 0 rest
text_lexes text rest h stops =
    let body = flat_map doubled text in
    let long : length body + 1 + 1 ≡ length (39 ∷ body ++ 39 ∷ []) = rw length-append (omega arith) in
    let whole : (body ++ 39 ∷ []) ++ rest ≡ body ++ 39 ∷ rest = append_assoc body (39 ∷ []) rest in
    let read : first (39 ∷ body ++ 39 ∷ rest) ≡ (t.Text text, length body + 1 + 1) = first_text (body ++ 39 ∷ rest) ∙ ap text_token (literal_read text rest stops.quote) ∙ rw h refl in
    let found : first (39 ∷ (body ++ 39 ∷ []) ++ rest) ≡ (t.Text text, length (39 ∷ body ++ 39 ∷ [])) = rw whole (read ∙ ap (λ n. (t.Text text, n)) long) in
    rw whole at (one_token 39 (body ++ 39 ∷ []) rest (t.Text text) apostrophe_seen found)

-- ---- key words at the end of a text, and a minus before a digit

pub null_lexes : (rest : List ℕ) → Stops rest → toks 0 (codes "NULL" ++ rest) ≡ t.Key k.Null ∷ toks 0 rest
unfolding is_word_byte is_blank key_of
null_lexes rest stops = word_lexes 78 (codes "ULL") rest refl refl refl stops

pub true_lexes : (rest : List ℕ) → Stops rest → toks 0 (codes "TRUE" ++ rest) ≡ t.Key k.True ∷ toks 0 rest
unfolding is_word_byte is_blank key_of
true_lexes rest stops = word_lexes 84 (codes "RUE") rest refl refl refl stops

pub false_lexes : (rest : List ℕ) → Stops rest → toks 0 (codes "FALSE" ++ rest) ≡ t.Key k.False ∷ toks 0 rest
unfolding is_word_byte is_blank key_of
false_lexes rest stops = word_lexes 70 (codes "ALSE") rest refl refl refl stops

pub end_lexes : (rest : List ℕ) → Stops rest → toks 0 (codes "END" ++ rest) ≡ t.Key k.End ∷ toks 0 rest
unfolding is_word_byte is_blank key_of
end_lexes rest stops = word_lexes 69 (codes "ND") rest refl refl refl stops

minus_before : (d : ℕ) (rest : List ℕ) → is_ascii_digit d ≡ true → toks 0 (45 ∷ d ∷ rest) ≡ t.Minus true ∷ toks 0 (d ∷ rest)
unfolding toks first is_word_byte is_blank
minus_before d rest h = rw h refl

pub negative_lexes : (n : ℕ) (rest : List ℕ) → n < 2 ^ 64 → Stops rest → toks 0 (45 ∷ decimal n ++ rest) ≡ t.Minus true ∷ t.Int n ∷ toks 0 rest
negative_lexes n rest h stops = by_digits (decimal n) (decimal_is_IsNumeral n h).0.0 (all_digits n h) ∙ ap (λ ts. t.Minus true ∷ ts) (number_lexes n rest h stops)
  where
    by_digits : (ds : List ℕ) → 0 < length ds → list_all is_ascii_digit ds ≡ true → toks 0 (45 ∷ ds ++ rest) ≡ t.Minus true ∷ toks 0 (ds ++ rest)
    by_digits [] some all = absurd (omega arith)
    by_digits (d ∷ ds) some all = minus_before d (ds ++ rest) (and_parts (is_ascii_digit d) (list_all is_ascii_digit ds) all).0
