-- A quoted word is no plain identifier.
use Rattle.std.proofs.Common.{◌≡◌, ℕ, true, List, [], ◌∷◌, None, refl}
use Rattle.std.proofs.lemmas.Bool.{eqb-true}
use Rattle.sql_text.specs.Identifier.{is_plain, plain_name}
use Rattle.sql_text.specs.Lexing.{is_word_byte}
use Rattle.words.specs.Forms.{is_quoted}

quote_no_plain : (rest : List ℕ) → plain_name (34 ∷ rest) ≡ None
unfolding plain_name is_plain is_word_byte
quote_no_plain rest = refl

pub quoted_no_plain : (text : List ℕ) → is_quoted text ≡ true → plain_name text ≡ None
quoted_no_plain [] h = cc
quoted_no_plain (b ∷ rest) h = let e : b ≡ 34 = eqb-true b 34 h in rw e (quote_no_plain rest)
