-- The grammar of expressions and statements, as rules over tokens.
use Rattle.std.specs.Prelude.{◌≡◌, ◌⊎◌, ℕ, ◌≤◌, ◌<◌, ◌^◌, List, [], ◌∷◌, ◌++◌, true, false, Option, Some, None, pos, neg_ℤ, codes, length, if◌then◌else◌}
use Rattle.std.specs.Str.{bytes_eq}
use Rattle.sql_base.specs.declared.values.Value.TheVariants as v
use Rattle.sql_base.specs.declared.values.Ty.{Ty}
use Rattle.sql_base.specs.declared.values.Ty.TheVariants as ty
use Rattle.sql_base.specs.declared.exprs.BinOp.{BinOp}
use Rattle.sql_base.specs.declared.exprs.BinOp.TheVariants as op
use Rattle.sql_base.specs.declared.exprs.Func.{Func}
use Rattle.sql_base.specs.declared.exprs.Func.TheVariants as func
use Rattle.sql_base.specs.declared.exprs.Expr.{Expr}
use Rattle.sql_base.specs.declared.exprs.Expr.TheVariants as e
use Rattle.sql_base.specs.declared.exprs.Arm.{Arm}
use Rattle.sql_base.specs.declared.stmts.Stmt.{Stmt}
use Rattle.sql_base.specs.declared.stmts.Stmt.TheVariants as stmt
use Rattle.sql_base.specs.declared.stmts.Items.{Items}
use Rattle.sql_base.specs.declared.stmts.Items.TheVariants as items
use Rattle.sql_text.specs.declared.keys.Key.TheVariants as k
use Rattle.sql_text.specs.declared.tokens.Sign.TheVariants as s
use Rattle.sql_text.specs.declared.tokens.Token.{Token}
use Rattle.sql_text.specs.declared.tokens.Token.TheVariants as t
use Rattle.sql_text.specs.Laws.{takes}

-- ---- operators and names

-- the operator that a token stands for between two operands
abbrev pub infix_of : Token → Option BinOp
infix_of (t.Key k.Or) = Some op.Or
infix_of (t.Key k.And) = Some op.And
infix_of (t.Sign s.Eq) = Some op.Eq
infix_of (t.Sign s.Ne) = Some op.Ne
infix_of (t.Sign s.Lt) = Some op.Lt
infix_of (t.Sign s.Le) = Some op.Le
infix_of (t.Sign s.Gt) = Some op.Gt
infix_of (t.Sign s.Ge) = Some op.Ge
infix_of (t.Sign s.Concat) = Some op.Concat
infix_of (t.Sign s.Plus) = Some op.Add
infix_of (t.Minus tight) = Some op.Sub
infix_of (t.Sign s.Star) = Some op.Mul
infix_of (t.Sign s.Slash) = Some op.Div
infix_of (t.Sign s.Percent) = Some op.Rem
infix_of _ = None

-- The levels, loosest first: 1 OR, 2 AND, 3 NOT, 4 IS NULL, 5 comparisons, 6 ||, 7 sums, 8 products, 9 the minus in
-- front, 10 ::, 11 what stands by itself.
abbrev pub level : BinOp → ℕ
level op.Or = 1
level op.And = 2
level op.Eq = 5
level op.Ne = 5
level op.Lt = 5
level op.Le = 5
level op.Gt = 5
level op.Ge = 5
level op.Concat = 6
level op.Add = 7
level op.Sub = 7
level op.Mul = 8
level op.Div = 8
level op.Rem = 8

-- A right operand is a level tighter, and so is the left one of a comparison.
abbrev pub left : BinOp → ℕ
left op.Or = 1
left op.And = 2
left op.Eq = 6
left op.Ne = 6
left op.Lt = 6
left op.Le = 6
left op.Gt = 6
left op.Ge = 6
left op.Concat = 6
left op.Add = 7
left op.Sub = 7
left op.Mul = 8
left op.Div = 8
left op.Rem = 8

abbrev pub right : BinOp → ℕ
right op.Or = 2
right op.And = 3
right op.Eq = 6
right op.Ne = 6
right op.Lt = 6
right op.Le = 6
right op.Gt = 6
right op.Ge = 6
right op.Concat = 7
right op.Add = 8
right op.Sub = 8
right op.Mul = 9
right op.Div = 9
right op.Rem = 9

unfoldable pub function_named : List ℕ → Option Func
function_named name =
    if bytes_eq name (codes "coalesce") then Some func.Coalesce else
    (if bytes_eq name (codes "nullif") then Some func.Nullif else
    (if bytes_eq name (codes "upper") then Some func.Upper else
    (if bytes_eq name (codes "lower") then Some func.Lower else
    (if bytes_eq name (codes "trim") then Some func.Trim else
    (if bytes_eq name (codes "length") then Some func.Length else None)))))

unfoldable pub type_named : List ℕ → Option Ty
type_named name =
    if bytes_eq name (codes "bigint") then Some ty.Bigint else
    (if bytes_eq name (codes "int8") then Some ty.Bigint else
    (if bytes_eq name (codes "text") then Some ty.Text else
    (if bytes_eq name (codes "boolean") then Some ty.Boolean else
    (if bytes_eq name (codes "bool") then Some ty.Boolean else None))))

-- ---- expressions

-- The tokens are a text of the tree whose outermost form has this level or a tighter one.
mutual
  pub data Reads : ℕ → List Token → Expr → Type 0 where
    int : {l n : ℕ} → n < 2 ^ 63 → Reads l (t.Int n ∷ []) (e.Lit (v.Int (pos n)))
    minus_int : {l n : ℕ} → n ≤ 2 ^ 63 → Reads l (t.Minus true ∷ t.Int n ∷ []) (e.Lit (v.Int (neg_ℤ (pos n))))
    text : {l : ℕ} {x : List ℕ} → Reads l (t.Text x ∷ []) (e.Lit (v.Text x))
    yes : {l : ℕ} → Reads l (t.Key k.True ∷ []) (e.Lit (v.Bool true))
    no : {l : ℕ} → Reads l (t.Key k.False ∷ []) (e.Lit (v.Bool false))
    null : {l : ℕ} → Reads l (t.Key k.Null ∷ []) (e.Lit v.Null)
    column : {l : ℕ} {name : List ℕ} → Reads l (t.Name name ∷ []) (e.Col name)
    quoted : {l : ℕ} {name : List ℕ} → Reads l (t.Quoted name ∷ []) (e.Col name)
    parens : {l : ℕ} {xs : List Token} {a : Expr} → Reads 0 xs a → Reads l (t.Sign s.Open ∷ (xs ++ t.Sign s.Close ∷ [])) a
    minus : {l : ℕ} {xs : List Token} {a : Expr} → l ≤ 9 → Reads 9 xs a → Reads l (t.Minus false ∷ xs) (e.Neg a)
    not : {l : ℕ} {xs : List Token} {a : Expr} → l ≤ 3 → Reads 3 xs a → Reads l (t.Key k.Not ∷ xs) (e.Not a)
    is_null : {l : ℕ} {xs : List Token} {a : Expr} → l ≤ 4 → Reads 4 xs a → Reads l (xs ++ t.Key k.Is ∷ t.Key k.Null ∷ []) (e.IsNull a)
    is_not_null : {l : ℕ} {xs : List Token} {a : Expr} → l ≤ 4 → Reads 4 xs a → Reads l (xs ++ t.Key k.Is ∷ t.Key k.Not ∷ t.Key k.Null ∷ []) (e.Not (e.IsNull a))
    typed : {l : ℕ} {xs : List Token} {a : Expr} (name : List ℕ) {to : Ty} → type_named name ≡ Some to → l ≤ 10 → Reads 10 xs a → Reads l (xs ++ t.Sign s.Cast ∷ t.Name name ∷ []) (e.Cast a to)
    cast : {l : ℕ} {xs : List Token} {a : Expr} (name : List ℕ) {to : Ty} → type_named name ≡ Some to → Reads 0 xs a →
        Reads l (t.Key k.Cast ∷ t.Sign s.Open ∷ (xs ++ t.Key k.As ∷ t.Name name ∷ t.Sign s.Close ∷ [])) (e.Cast a to)
    case : {l : ℕ} {xs ys : List Token} {arms : List Arm} {other : Expr} → ReadsArms xs arms → Reads 0 ys other →
        Reads l (t.Key k.Case ∷ (xs ++ t.Key k.Else ∷ (ys ++ t.Key k.End ∷ []))) (e.Case arms other)
    case_alone : {l : ℕ} {xs : List Token} {arms : List Arm} → ReadsArms xs arms → Reads l (t.Key k.Case ∷ (xs ++ t.Key k.End ∷ [])) (e.Case arms (e.Lit v.Null))
    call : {l : ℕ} {xs : List Token} {args : List Expr} (name : List ℕ) {f : Func} → function_named name ≡ Some f → takes f (length args) → ReadsAll xs args →
        Reads l (t.Name name ∷ t.Sign s.Open ∷ (xs ++ t.Sign s.Close ∷ [])) (e.Call f args)
    binary : {l : ℕ} (x : Token) {o : BinOp} {xs ys : List Token} {a b : Expr} →
        infix_of x ≡ Some o → l ≤ level o → Reads (left o) xs a → Reads (right o) ys b → Reads l (xs ++ x ∷ ys) (e.Bin o a b)

  -- WHEN and THEN, once or more
  pub data ReadsArms : List Token → List Arm → Type 0 where
    first_arm : {xs ys : List Token} {a : Arm} → Reads 0 xs a.when → Reads 0 ys a.gives → ReadsArms (t.Key k.When ∷ (xs ++ t.Key k.Then ∷ ys)) (a ∷ [])
    next_arm : {xs ys zs : List Token} {arms : List Arm} {a : Arm} → ReadsArms xs arms → Reads 0 ys a.when → Reads 0 zs a.gives →
        ReadsArms (xs ++ t.Key k.When ∷ (ys ++ t.Key k.Then ∷ zs)) (arms ++ a ∷ [])

  -- expressions with commas between them
  pub data ReadsAll : List Token → List Expr → Type 0 where
    first_one : {xs : List Token} {a : Expr} → Reads 0 xs a → ReadsAll xs (a ∷ [])
    next_one : {xs ys : List Token} {args : List Expr} {a : Expr} → ReadsAll xs args → Reads 0 ys a → ReadsAll (xs ++ t.Sign s.Comma ∷ ys) (args ++ a ∷ [])

-- a whole text: an expression, and the end
pub record IsText (ts : List Token) (a : Expr) : Type 0 where
  pub tokens : List Token
  pub ends : ts ≡ tokens ++ t.End ∷ []
  pub reads : Reads 0 tokens a

-- ---- statements

-- the name that a token is, plain or quoted
abbrev pub name_of : Token → Option (List ℕ)
name_of (t.Name name) = Some name
name_of (t.Quoted name) = Some name
name_of _ = None

-- one of a kind or more, with commas between them (ReadsAll is the same of expressions, and stands among their rules)
pub data Listed {X : Type 0} (ReadsOne : List Token → X → Type 0) : List Token → List X → Type 0 where
  first : {xs : List Token} {a : X} → ReadsOne xs a → Listed ReadsOne xs (a ∷ [])
  next : {xs ys : List Token} {list : List X} {a : X} → Listed ReadsOne xs list → ReadsOne ys a → Listed ReadsOne (xs ++ t.Sign s.Comma ∷ ys) (list ++ a ∷ [])

pub data ReadsName : List Token → List ℕ → Type 0 where
  a_name : (x : Token) {name : List ℕ} → name_of x ≡ Some name → ReadsName (x ∷ []) name

pub data ReadsTuple : List Token → List Expr → Type 0 where
  a_tuple : {xs : List Token} {row : List Expr} → Listed (Reads 0) xs row → ReadsTuple (t.Sign s.Open ∷ (xs ++ t.Sign s.Close ∷ [])) row

pub data ReadsSet : List Token → List ℕ × Expr → Type 0 where
  a_set : (x : Token) {name : List ℕ} {xs : List Token} {a : Expr} → name_of x ≡ Some name → Reads 0 xs a → ReadsSet (x ∷ t.Sign s.Eq ∷ xs) (name, a)

-- WHERE, or nothing
pub data ReadsFilter : List Token → Option Expr → Type 0 where
  no_filter : ReadsFilter [] None
  a_filter : {xs : List Token} {a : Expr} → Reads 0 xs a → ReadsFilter (t.Key k.Where ∷ xs) (Some a)

pub data ReadsItems : List Token → Items → Type 0 where
  all_items : ReadsItems (t.Sign s.Star ∷ []) items.All
  listed : {xs : List Token} {list : List Expr} → Listed (Reads 0) xs list → ReadsItems xs (items.Listed list)

pub data ReadsStmt : List Token → Stmt → Type 0 where
  insert : (x : Token) {table : List ℕ} {xs ys : List Token} {columns : List (List ℕ)} {rows : List (List Expr)} → name_of x ≡ Some table → Listed ReadsName xs columns → Listed ReadsTuple ys rows →
      ReadsStmt (t.Key k.Insert ∷ t.Key k.Into ∷ x ∷ t.Sign s.Open ∷ (xs ++ t.Sign s.Close ∷ t.Key k.Values ∷ ys)) (stmt.Insert table columns rows)
  update : (x : Token) {table : List ℕ} {xs ys : List Token} {sets : List (List ℕ × Expr)} {cond : Option Expr} → name_of x ≡ Some table → Listed ReadsSet xs sets → ReadsFilter ys cond →
      ReadsStmt (t.Key k.Update ∷ x ∷ t.Key k.Set ∷ (xs ++ ys)) (stmt.Update table sets cond)
  delete : (x : Token) {table : List ℕ} {xs : List Token} {cond : Option Expr} → name_of x ≡ Some table → ReadsFilter xs cond →
      ReadsStmt (t.Key k.Delete ∷ t.Key k.From ∷ x ∷ xs) (stmt.Delete table cond)
  select : (x : Token) {table : List ℕ} {xs ys : List Token} {list : Items} {cond : Option Expr} → ReadsItems xs list → name_of x ≡ Some table → ReadsFilter ys cond →
      ReadsStmt (t.Key k.Select ∷ (xs ++ t.Key k.From ∷ x ∷ ys)) (stmt.Query table list cond)
  path : (x : Token) {xs : List Token} {names : List (List ℕ)} → name_of x ≡ Some (codes "search_path") → Listed ReadsName xs names →
      ReadsStmt (t.Key k.Set ∷ x ∷ t.Key k.To ∷ xs) (stmt.SetPath names)

-- a whole text: a statement, one semicolon or none, and the end
pub record IsStmt (ts : List Token) (a : Stmt) : Type 0 where
  pub tokens : List Token
  pub ends : (ts ≡ tokens ++ t.End ∷ []) ⊎ (ts ≡ tokens ++ t.Sign s.Semicolon ∷ t.End ∷ [])
  pub reads : ReadsStmt tokens a
