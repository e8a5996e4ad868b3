-- Which expressions have a text, and that the tokens of that text are theirs.
use Rattle.std.specs.Prelude.{ℕ, ◌<◌, ◌≤◌, ◌^◌, ◌≡◌, pos, negsuc, List, [], ◌∷◌, ◌++◌, true, length, false, ◌==◌, ◌+◌, Some}
use Rattle.std.specs.List.{AllByRecursion, flat_map}
use Rattle.std.specs.Str.{byte}
use Rattle.sql_base.specs.declared.values.Value.{Value}
use Rattle.sql_base.specs.declared.values.Value.TheVariants.{Null, Int, Text, Bool as Truth}
use Rattle.sql_base.specs.declared.values.Ty.{Ty}
use Rattle.sql_base.specs.declared.exprs.BinOp.{BinOp}
use Rattle.sql_base.specs.declared.exprs.Func.{Func}
use Rattle.sql_base.specs.declared.exprs.Func.TheVariants as func
use Rattle.sql_base.specs.declared.exprs.Expr.{Expr}
use Rattle.sql_base.specs.declared.exprs.Expr.TheVariants as e
use Rattle.sql_base.specs.declared.exprs.Arm.{Arm}
use Rattle.sql_text.specs.declared.tokens.Token.TheVariants as t
use Rattle.sql_text.specs.declared.tokens.Token.{Token}
use Rattle.sql_text.specs.Lexing.{is_name, is_short_text, tokens_of, places_of, begins, literal}
use Rattle.sql_text.specs.Printing.{spelled, written, doubled}

-- a number of 64 bits with a sign, and a text of at most 4,096 bytes
abbrev pub IsLiteral : Value → Type 0
IsLiteral Null = Unit {0}
IsLiteral (Int (pos n)) = n < 2 ^ 63
IsLiteral (Int (negsuc n)) = n < 2 ^ 63
IsLiteral (Text text) = is_short_text text ≡ true
IsLiteral (Truth b) = Unit {0}

-- how many arguments a function takes
abbrev pub takes : Func → ℕ → Type 0
takes func.Coalesce n = 1 ≤ n
takes func.Nullif n = n ≡ 2
takes f n = n ≡ 1

-- The expressions that have a text: literals and names as a text may have them, an arm in every CASE, and as many
-- arguments as a function takes.
mutual
  pub data HasText : Expr → Type 0 where
    lit : {v : Value} → IsLiteral v → HasText (e.Lit v)
    col : {name : List ℕ} → is_name name ≡ true → HasText (e.Col name)
    not : {a : Expr} → HasText a → HasText (e.Not a)
    minus : {a : Expr} → HasText a → HasText (e.Neg a)
    is_null : {a : Expr} → HasText a → HasText (e.IsNull a)
    binary : {o : BinOp} {a b : Expr} → HasText a → HasText b → HasText (e.Bin o a b)
    cast : {a : Expr} {to : Ty} → HasText a → HasText (e.Cast a to)
    case : {arms : List Arm} {other : Expr} → 1 ≤ length arms → ArmsHaveText arms → HasText other → HasText (e.Case arms other)
    call : {f : Func} {args : List Expr} → takes f (length args) → AllHaveText args → HasText (e.Call f args)

  pub data ArmsHaveText : List Arm → Type 0 where
    no_arm : ArmsHaveText []
    arm : {a : Arm} {arms : List Arm} → HasText a.when → HasText a.gives → ArmsHaveText arms → ArmsHaveText (a ∷ arms)

  pub data AllHaveText : List Expr → Type 0 where
    no_more : AllHaveText []
    one_more : {a : Expr} {args : List Expr} → HasText a → AllHaveText args → AllHaveText (a ∷ args)

-- The tokens of the canonical text are those that the tree is written as, whatever the tree.
abbrev pub TextHasItsTokens : Type 0
TextHasItsTokens = (a : Expr) → HasText a → tokens_of (spelled a) ≡ written a ++ t.End ∷ []

-- what a token that was read holds
abbrev pub IsProper : Token → Type 0
IsProper (t.Name name) = is_name name ≡ true
IsProper (t.Quoted name) = is_name name ≡ true
IsProper (t.Int n) = n < 2 ^ 64
IsProper (t.Text text) = is_short_text text ≡ true
IsProper _ = Unit {0}

-- Names, numbers and texts are as they may be, in each token of each text.
abbrev pub TokensAreProper : Type 0
TokensAreProper = (text : List ℕ) → AllByRecursion IsProper (tokens_of text)

-- the tokens of a text end in the end
abbrev pub TokensEnd : Type 0
TokensEnd = (text : List ℕ) → (tokens : List Token) × (tokens_of text ≡ tokens ++ t.End ∷ [])

-- no token begins behind the end
abbrev pub PlacesAreInside : Type 0
PlacesAreInside = (text : List ℕ) → AllByRecursion (λ at. at ≤ length text) (places_of text)

-- The text is the value with each quote written twice, then a quote that none follows, and the rest; these are so many bytes before the rest.
pub record IsLiteralOf (text value : List ℕ) (len : ℕ) : Type 0 where
  pub rest : List ℕ
  pub parts : text ≡ flat_map doubled value ++ byte "'" ∷ rest
  pub closed : begins (λ b. b == byte "'") rest ≡ false
  pub count : len ≡ length (flat_map doubled value) + 1

-- Behind its opening quote a literal is read exactly where there is one.
abbrev pub LiteralsAreDoubled : Type 0
LiteralsAreDoubled = (text value : List ℕ) (len : ℕ) → (literal false text ≡ Some (value, len) → IsLiteralOf text value len) × (IsLiteralOf text value len → literal false text ≡ Some (value, len))
