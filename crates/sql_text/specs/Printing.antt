-- How expressions and values are written.
use Rattle.std.specs.Prelude.{ℕ, suc, ℤ, pos, negsuc, List, [], ◌∷◌, ◌++◌, true, false, ◌==◌, if◌then◌else◌, codes}
use Rattle.std.specs.List.{concat, flat_map}
use Rattle.std.specs.Fmt.{signed_decimal}
use Rattle.std.specs.Str.{byte}
use Rattle.sql_base.specs.declared.values.Value.{Value}
use Rattle.sql_base.specs.declared.values.Value.TheVariants.{Null, Int, Text, Bool as Truth}
use Rattle.sql_base.specs.declared.values.Ty.{Ty}
use Rattle.sql_base.specs.declared.values.Ty.TheVariants as ty
use Rattle.sql_base.specs.declared.exprs.BinOp.{BinOp}
use Rattle.sql_base.specs.declared.exprs.BinOp.TheVariants as op
use Rattle.sql_base.specs.declared.exprs.Func.{Func}
use Rattle.sql_base.specs.declared.exprs.Func.TheVariants as func
use Rattle.sql_base.specs.declared.exprs.Expr.{Expr}
use Rattle.sql_base.specs.declared.exprs.Arm.{Arm}
use Rattle.sql_base.specs.declared.exprs.Expr.TheOpen.{Expr-F, Arm-F}
use Rattle.sql_base.specs.declared.exprs.Expr.TheFolds.{fold-Expr, fold-Arm}
use Rattle.sql_text.specs.declared.keys.Key.TheVariants as k
use Rattle.sql_text.specs.declared.tokens.Sign.TheVariants as s
use Rattle.sql_text.specs.declared.tokens.Token.{Token}
use Rattle.sql_text.specs.declared.tokens.Token.TheVariants as t
use Rattle.sql_text.specs.Keys.{is_reserved}

-- ---- a value in a line of output

-- A backslash and a bar get a backslash in front; a newline is written \n, and a carriage return \r.
abbrev pub escaped : ℕ → List ℕ
escaped b =
    if b == byte "\\" then codes "\\\\"
    else (if b == byte "|" then codes "\\|"
    else (if b == byte "\n" then codes "\\n"
    else (if b == byte "\r" then codes "\\r"
    else b ∷ [])))

-- NULL is \N, a number is decimal, a boolean is a word, and a text is written byte by byte.
abbrev pub value_text : Value → List ℕ
value_text Null = codes "\\N"
value_text (Int n) = signed_decimal n
value_text (Text text) = flat_map escaped text
value_text (Truth true) = codes "true"
value_text (Truth false) = codes "false"

-- ---- the words of expressions

abbrev pub operator_text : BinOp → List ℕ
operator_text op.Or = codes "OR"
operator_text op.And = codes "AND"
operator_text op.Eq = codes "="
operator_text op.Ne = codes "<>"
operator_text op.Lt = codes "<"
operator_text op.Le = codes "<="
operator_text op.Gt = codes ">"
operator_text op.Ge = codes ">="
operator_text op.Concat = codes "||"
operator_text op.Add = codes "+"
operator_text op.Sub = codes "-"
operator_text op.Mul = codes "*"
operator_text op.Div = codes "/"
operator_text op.Rem = codes "%"

abbrev pub type_name : Ty → List ℕ
type_name ty.Bigint = codes "bigint"
type_name ty.Text = codes "text"
type_name ty.Boolean = codes "boolean"

abbrev pub function_name : Func → List ℕ
function_name func.Coalesce = codes "coalesce"
function_name func.Nullif = codes "nullif"
function_name func.Upper = codes "upper"
function_name func.Lower = codes "lower"
function_name func.Trim = codes "trim"
function_name func.Length = codes "length"

-- ---- the text of an expression

-- a quote is written twice
abbrev pub doubled : ℕ → List ℕ
doubled b = if b == byte "'" then b ∷ b ∷ [] else b ∷ []

abbrev pub literal_text : Value → List ℕ
literal_text Null = codes "NULL"
literal_text (Int n) = signed_decimal n
literal_text (Text text) = codes "'" ++ (flat_map doubled text ++ codes "'")
literal_text (Truth true) = codes "TRUE"
literal_text (Truth false) = codes "FALSE"

-- A name stands plain; a key word stands quoted.
abbrev pub name_text : List ℕ → List ℕ
name_text name = if is_reserved name then codes "\"" ++ (name ++ codes "\"") else name

-- the texts, each behind the separator but the first, before which this one stands
abbrev pub joined : List ℕ → List (List ℕ) → List ℕ
joined before [] = []
joined before (text ∷ texts) = before ++ (text ++ joined (codes ", ") texts)

-- One level, with what its parts are written as in their places. Every form with an operator stands in parentheses.
abbrev pub spelled_step : Expr-F (List ℕ) (List ℕ) → List ℕ
spelled_step (Expr-F.Lit v) = literal_text v
spelled_step (Expr-F.Col name) = name_text name
spelled_step (Expr-F.Not a) = codes "(NOT " ++ (a ++ codes ")")
spelled_step (Expr-F.Neg a) = codes "(- " ++ (a ++ codes ")")
spelled_step (Expr-F.IsNull a) = codes "(" ++ (a ++ codes " IS NULL)")
spelled_step (Expr-F.Bin o a b) = codes "(" ++ (a ++ (codes " " ++ (operator_text o ++ (codes " " ++ (b ++ codes ")")))))
spelled_step (Expr-F.Cast a to) = codes "CAST(" ++ (a ++ (codes " AS " ++ (type_name to ++ codes ")")))
spelled_step (Expr-F.Case arms other) = codes "CASE " ++ (concat arms ++ (codes "ELSE " ++ (other ++ codes " END")))
spelled_step (Expr-F.Call f args) = function_name f ++ (codes "(" ++ (joined [] args ++ codes ")"))

abbrev pub spelled_arm_step : Arm-F (List ℕ) (List ℕ) → List ℕ
spelled_arm_step a = codes "WHEN " ++ (a.when ++ (codes " THEN " ++ (a.gives ++ codes " ")))

-- the canonical text of an expression
unfoldable pub spelled : Expr → List ℕ
spelled = fold-Expr (List ℕ) (List ℕ) spelled_step spelled_arm_step

unfoldable pub spelled_arm : Arm → List ℕ
spelled_arm = fold-Arm (List ℕ) (List ℕ) spelled_step spelled_arm_step

-- ---- the tokens of an expression's canonical text

abbrev pub number_tokens : ℤ → List Token
number_tokens (pos n) = t.Int n ∷ []
number_tokens (negsuc n) = t.Minus true ∷ t.Int (suc n) ∷ []

abbrev pub literal_tokens : Value → List Token
literal_tokens Null = t.Key k.Null ∷ []
literal_tokens (Int n) = number_tokens n
literal_tokens (Text text) = t.Text text ∷ []
literal_tokens (Truth true) = t.Key k.True ∷ []
literal_tokens (Truth false) = t.Key k.False ∷ []

abbrev pub name_token : List ℕ → Token
name_token name = if is_reserved name then t.Quoted name else t.Name name

abbrev pub operator_token : BinOp → Token
operator_token op.Or = t.Key k.Or
operator_token op.And = t.Key k.And
operator_token op.Eq = t.Sign s.Eq
operator_token op.Ne = t.Sign s.Ne
operator_token op.Lt = t.Sign s.Lt
operator_token op.Le = t.Sign s.Le
operator_token op.Gt = t.Sign s.Gt
operator_token op.Ge = t.Sign s.Ge
operator_token op.Concat = t.Sign s.Concat
operator_token op.Add = t.Sign s.Plus
operator_token op.Sub = t.Minus false
operator_token op.Mul = t.Sign s.Star
operator_token op.Div = t.Sign s.Slash
operator_token op.Rem = t.Sign s.Percent

abbrev pub separated : List Token → List (List Token) → List Token
separated before [] = []
separated before (ts ∷ tss) = before ++ (ts ++ separated (t.Sign s.Comma ∷ []) tss)

abbrev pub written_step : Expr-F (List Token) (List Token) → List Token
written_step (Expr-F.Lit v) = literal_tokens v
written_step (Expr-F.Col name) = name_token name ∷ []
written_step (Expr-F.Not a) = t.Sign s.Open ∷ t.Key k.Not ∷ (a ++ t.Sign s.Close ∷ [])
written_step (Expr-F.Neg a) = t.Sign s.Open ∷ t.Minus false ∷ (a ++ t.Sign s.Close ∷ [])
written_step (Expr-F.IsNull a) = t.Sign s.Open ∷ (a ++ t.Key k.Is ∷ t.Key k.Null ∷ t.Sign s.Close ∷ [])
written_step (Expr-F.Bin o a b) = t.Sign s.Open ∷ (a ++ operator_token o ∷ (b ++ t.Sign s.Close ∷ []))
written_step (Expr-F.Cast a to) = t.Key k.Cast ∷ t.Sign s.Open ∷ (a ++ t.Key k.As ∷ t.Name (type_name to) ∷ t.Sign s.Close ∷ [])
written_step (Expr-F.Case arms other) = t.Key k.Case ∷ (flat_map (λ ts. ts) arms ++ t.Key k.Else ∷ (other ++ t.Key k.End ∷ []))
written_step (Expr-F.Call f args) = t.Name (function_name f) ∷ t.Sign s.Open ∷ (separated [] args ++ t.Sign s.Close ∷ [])

abbrev pub written_arm_step : Arm-F (List Token) (List Token) → List Token
written_arm_step a = t.Key k.When ∷ (a.when ++ t.Key k.Then ∷ a.gives)

unfoldable pub written : Expr → List Token
written = fold-Expr (List Token) (List Token) written_step written_arm_step

unfoldable pub written_arm : Arm → List Token
written_arm = fold-Arm (List Token) (List Token) written_step written_arm_step
