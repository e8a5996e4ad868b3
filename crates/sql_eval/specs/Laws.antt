-- The laws of types and values.
use Rattle.std.specs.Prelude.{◌≡◌, ◌≢◌, ℕ, true, List, Ok, Err}
use Rattle.sql_base.specs.declared.faults.EvalFault.TheVariants as eval_fault
use Rattle.sql_base.specs.declared.faults.TypeFault.TheVariants as type_fault
use Rattle.sql_base.specs.declared.values.Value.{Value}
use Rattle.sql_base.specs.declared.exprs.Expr.{Expr}
use Rattle.sql_base.specs.declared.shapes.Shape.{Shape}
use Rattle.sql_eval.specs.Value.{Outcome}
use Rattle.sql_eval.specs.Eval.{eval, value_at, column_at}
use Rattle.sql_eval.specs.Typing.{Typed, type_of}
use Rattle.sql_base.specs.Fit.{has_type, fits_columns}
use Rattle.sql_base.specs.Tree.{names_column}

-- ---- a typed expression comes to a value of its type

-- the value is NULL or of the type
abbrev pub Suits : Typed → Value → Type 0
Suits (Err f) v = Unit {0}
Suits (Ok t) v = has_type t v ≡ true

-- where there are both a type and a value
abbrev pub Sound : Typed → Outcome → Type 0
Sound t (Err f) = Unit {0}
Sound t (Ok v) = Suits t v

-- Over a row that fits, what a typed expression comes to is NULL or of its type.
abbrev pub TypedIsSound : Type 0
TypedIsSound = (shape : Shape) (row : List Value) (e : Expr) → fits_columns shape.columns row ≡ true → Sound (type_of shape e) (eval shape row e)

-- ---- an expression looks only at the columns that it names

-- Two rows, of one shape or of two, have the same value in each column that the expression names.
abbrev pub AgreeOn : Expr → Shape → List Value → Shape → List Value → Type 0
AgreeOn e shape row other_shape other = (name : List ℕ) → names_column name e ≡ true → value_at row (column_at shape name) ≡ value_at other (column_at other_shape name)

-- Over such rows it comes to the same, value or fault.
abbrev pub LooksAtNamedColumns : Type 0
LooksAtNamedColumns = (e : Expr) (shape : Shape) (row : List Value) (other_shape : Shape) (other : List Value) → AgreeOn e shape row other_shape other → eval shape row e ≡ eval other_shape other e

-- ---- no expression wants memory

-- What an expression comes to isn't want of memory, whatever the row is.
abbrev pub EvaluatingWantsNothing : Type 0
EvaluatingWantsNothing = (shape : Shape) (row : List Value) (e : Expr) → eval shape row e ≢ Err eval_fault.NoMemory

-- Neither is its type.
abbrev pub TypingWantsNothing : Type 0
TypingWantsNothing = (shape : Shape) (e : Expr) → type_of shape e ≢ Err type_fault.NoMemory
