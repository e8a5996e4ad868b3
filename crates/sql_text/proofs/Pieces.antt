-- The tokens of a text, apart from their places, piece by piece.
use Rattle.std.proofs.Common.{◌≡◌, ℕ, suc, zero, ◌+◌, ◌-◌, List, [], ◌∷◌, ◌++◌, true, false, if◌then◌else◌, refl, ap, arith, map, codes, length}
use Rattle.sql_base.specs.declared.values.Ty.{Ty}
use Rattle.sql_base.specs.declared.values.Ty.TheVariants as ty
use Rattle.sql_base.specs.declared.exprs.BinOp.{BinOp}
use Rattle.sql_base.specs.declared.exprs.BinOp.TheVariants as op
use Rattle.sql_base.specs.declared.exprs.Func.{Func}
use Rattle.sql_base.specs.declared.exprs.Func.TheVariants as func
use Rattle.sql_text.specs.declared.keys.Key.TheVariants as k
use Rattle.sql_text.specs.declared.tokens.Sign.TheVariants as s
use Rattle.sql_text.specs.declared.tokens.Token.{Token}
use Rattle.sql_text.specs.declared.tokens.Token.TheVariants as t
use Rattle.sql_text.specs.Keys.{key_of}
use Rattle.sql_text.specs.Lexing.{is_blank, is_word_byte, first, lexed}
use Rattle.sql_text.specs.Printing.{operator_text, operator_token, type_name, function_name}

unfoldable pub toks : ℕ → List ℕ → List Token
toks skip [] = t.End ∷ []
toks (suc skip) (b ∷ bs) = toks skip bs
toks zero (b ∷ bs) = if is_blank b then toks 0 bs else ((first (b ∷ bs)).0 ∷ toks ((first (b ∷ bs)).1 - 1) bs)

pub placeless : (at skip : ℕ) (bs : List ℕ) → map (λ p. p.token) (lexed at skip bs) ≡ toks skip bs
unfolding lexed toks
placeless at skip [] = refl
placeless at (suc skip) (b ∷ bs) = placeless (at + 1) skip bs
placeless at zero (b ∷ bs) =
    elim (is_blank b) as (λ s. map (λ p. p.token) (if s then lexed (at + 1) 0 bs else (record { at = at; token = (first (b ∷ bs)).0 } ∷ lexed (at + 1) ((first (b ∷ bs)).1 - 1) bs))
    ≡ (if s then toks 0 bs else ((first (b ∷ bs)).0 ∷ toks ((first (b ∷ bs)).1 - 1) bs))) [
      | true ↦ placeless (at + 1) 0 bs
      | false ↦ ap (λ ts. (first (b ∷ bs)).0 ∷ ts) (placeless (at + 1) ((first (b ∷ bs)).1 - 1) bs)
    ]

-- bytes of a token that was read are passed over
pub passed : (xs rest : List ℕ) → toks (length xs) (xs ++ rest) ≡ toks 0 rest
unfolding toks
passed [] rest = refl
passed (x ∷ xs) rest = passed xs rest

-- a token of more than one byte or of one
pub one_token : (b : ℕ) (bs rest : List ℕ) (x : Token) → is_blank b ≡ false → first (b ∷ bs ++ rest) ≡ (x, length (b ∷ bs)) → toks 0 (b ∷ bs ++ rest) ≡ x ∷ toks 0 rest
unfolding toks
one_token b bs rest x e is =
    let less : suc (length bs) - 1 ≡ length bs = omega arith in rw (e, is, less) (ap (λ ts. x ∷ ts) (passed bs rest))

pub end_piece : toks 0 [] ≡ t.End ∷ []
unfolding toks
end_piece = refl

pub open_piece : (rest : List ℕ) → toks 0 (codes "(" ++ rest) ≡ t.Sign s.Open ∷ toks 0 rest
unfolding toks first is_blank is_word_byte
open_piece [] = refl
open_piece (b ∷ bs) = refl

pub close_piece : (rest : List ℕ) → toks 0 (codes ")" ++ rest) ≡ t.Sign s.Close ∷ toks 0 rest
unfolding toks first is_blank is_word_byte
close_piece [] = refl
close_piece (b ∷ bs) = refl

pub comma_piece : (rest : List ℕ) → toks 0 (codes ", " ++ rest) ≡ t.Sign s.Comma ∷ toks 0 rest
unfolding toks first is_blank is_word_byte
comma_piece rest = refl

pub not_piece : (rest : List ℕ) → toks 0 (codes "(NOT " ++ rest) ≡ t.Sign s.Open ∷ t.Key k.Not ∷ toks 0 rest
unfolding toks first is_blank is_word_byte key_of
not_piece rest = refl

pub minus_piece : (rest : List ℕ) → toks 0 (codes "(- " ++ rest) ≡ t.Sign s.Open ∷ t.Minus false ∷ toks 0 rest
unfolding toks first is_blank is_word_byte
minus_piece rest = refl

pub is_null_piece : (rest : List ℕ) → toks 0 (codes " IS NULL)" ++ rest) ≡ t.Key k.Is ∷ t.Key k.Null ∷ t.Sign s.Close ∷ toks 0 rest
unfolding toks first is_blank is_word_byte key_of
is_null_piece [] = refl
is_null_piece (b ∷ bs) = refl

pub cast_piece : (rest : List ℕ) → toks 0 (codes "CAST(" ++ rest) ≡ t.Key k.Cast ∷ t.Sign s.Open ∷ toks 0 rest
unfolding toks first is_blank is_word_byte key_of
cast_piece [] = refl
cast_piece (b ∷ bs) = refl

pub as_piece : (to : Ty) (rest : List ℕ) → toks 0 (codes " AS " ++ (type_name to ++ (codes ")" ++ rest))) ≡ t.Key k.As ∷ t.Name (type_name to) ∷ t.Sign s.Close ∷ toks 0 rest
unfolding toks first is_blank is_word_byte key_of
as_piece ty.Bigint [] = refl
as_piece ty.Bigint (b ∷ bs) = refl
as_piece ty.Text [] = refl
as_piece ty.Text (b ∷ bs) = refl
as_piece ty.Boolean [] = refl
as_piece ty.Boolean (b ∷ bs) = refl

pub when_piece : (rest : List ℕ) → toks 0 (codes "WHEN " ++ rest) ≡ t.Key k.When ∷ toks 0 rest
unfolding toks first is_blank is_word_byte key_of
when_piece rest = refl

pub case_piece : (rest : List ℕ) → toks 0 (codes "CASE " ++ rest) ≡ t.Key k.Case ∷ toks 0 rest
unfolding toks first is_blank is_word_byte key_of
case_piece rest = refl

pub blank_piece : (rest : List ℕ) → toks 0 (codes " " ++ rest) ≡ toks 0 rest
unfolding toks is_blank
blank_piece rest = refl

pub then_piece : (rest : List ℕ) → toks 0 (codes " THEN " ++ rest) ≡ t.Key k.Then ∷ toks 0 rest
unfolding toks first is_blank is_word_byte key_of
then_piece rest = refl

pub else_piece : (rest : List ℕ) → toks 0 (codes "ELSE " ++ rest) ≡ t.Key k.Else ∷ toks 0 rest
unfolding toks first is_blank is_word_byte key_of
else_piece rest = refl

pub operator_piece : (o : BinOp) (rest : List ℕ) → toks 0 (codes " " ++ (operator_text o ++ (codes " " ++ rest))) ≡ operator_token o ∷ toks 0 rest
unfolding toks first is_blank is_word_byte key_of
operator_piece op.Or rest = refl
operator_piece op.And rest = refl
operator_piece op.Eq rest = refl
operator_piece op.Ne rest = refl
operator_piece op.Lt rest = refl
operator_piece op.Le rest = refl
operator_piece op.Gt rest = refl
operator_piece op.Ge rest = refl
operator_piece op.Concat rest = refl
operator_piece op.Add rest = refl
operator_piece op.Sub rest = refl
operator_piece op.Mul rest = refl
operator_piece op.Div rest = refl
operator_piece op.Rem rest = refl

pub function_piece : (f : Func) (rest : List ℕ) → toks 0 (function_name f ++ (codes "(" ++ rest)) ≡ t.Name (function_name f) ∷ t.Sign s.Open ∷ toks 0 rest
unfolding toks first is_blank is_word_byte key_of
function_piece func.Coalesce [] = refl
function_piece func.Coalesce (b ∷ bs) = refl
function_piece func.Nullif [] = refl
function_piece func.Nullif (b ∷ bs) = refl
function_piece func.Upper [] = refl
function_piece func.Upper (b ∷ bs) = refl
function_piece func.Lower [] = refl
function_piece func.Lower (b ∷ bs) = refl
function_piece func.Trim [] = refl
function_piece func.Trim (b ∷ bs) = refl
function_piece func.Length [] = refl
function_piece func.Length (b ∷ bs) = refl
