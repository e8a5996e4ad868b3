-- The forms of a WHERE that names one key. That other forms don't is our own.
use Rattle.std.specs.Prelude.{◌≡◌, ℕ, ℤ, true, List, Some}
use Rattle.sql_base.specs.declared.exprs.BinOp.TheVariants as op
use Rattle.sql_base.specs.declared.exprs.Expr.TheVariants.{Bin, Col, Lit}
use Rattle.row_rules.specs.Reach.{is_key_column, key_named}
use Rattle.row_rules.specs.Words.{Expr, Int, Shape}

-- The condition names the key: `key = n`, `n = key`, or an AND whose left operand names it.
pub data Names (shape : Shape) : Expr → ℤ → Type 0 where
  key_first : (name : List ℕ) (n : ℤ) → is_key_column shape name ≡ true → Names shape (Bin op.Eq (Col name) (Lit (Int n))) n
  key_last : (name : List ℕ) (n : ℤ) → is_key_column shape name ≡ true → Names shape (Bin op.Eq (Lit (Int n)) (Col name)) n
  left_of_and : (left right : Expr) (n : ℤ) → Names shape left n → Names shape (Bin op.And left right) n

-- A key is named by these forms alone.
abbrev pub NamedByForm : Type 0
NamedByForm = (shape : Shape) (condition : Expr) (n : ℤ) → key_named shape condition ≡ Some n → Names shape condition n

-- By each of them it is.
abbrev pub FormsName : Type 0
FormsName = (shape : Shape) (condition : Expr) (n : ℤ) → Names shape condition n → key_named shape condition ≡ Some n
