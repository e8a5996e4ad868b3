-- The type of an expression over a shape: `Ok None` is the type of NULL, which fits every type.
--
-- Which forms there are, and their operands' types, are in the words of the PostgreSQL manual; that nothing else is
-- converted, and the order of faults, are our own: the parts of a form first, in written order, and then the form.
use Rattle.std.specs.Prelude.{ℕ, Bool, true, false, ◌||◌, List, [], ◌∷◌, map, find, Option, Some, None, Result, Ok, Err, if◌then◌else◌}
use Rattle.std.specs.Str.{bytes_eq}
use Rattle.sql_base.specs.declared.values.Value.{Value}
use Rattle.sql_base.specs.declared.values.Value.TheVariants.{Null, Int, Text, Bool as Truth}
use Rattle.sql_base.specs.declared.values.Ty.{Ty}
use Rattle.sql_base.specs.declared.values.Ty.TheVariants as ty
use Rattle.sql_base.specs.declared.exprs.Expr.{Expr}
use Rattle.sql_base.specs.declared.exprs.Arm.{Arm}
use Rattle.sql_base.specs.declared.exprs.Expr.TheOpen.{Expr-F, Arm-F}
use Rattle.sql_base.specs.declared.exprs.Expr.TheFolds.{fold-Expr, fold-Arm}
use Rattle.sql_base.specs.declared.exprs.BinOp.{BinOp}
use Rattle.sql_base.specs.declared.exprs.BinOp.TheVariants as op
use Rattle.sql_base.specs.declared.exprs.Func.{Func}
use Rattle.sql_base.specs.declared.exprs.Func.TheVariants as func
use Rattle.sql_base.specs.declared.shapes.Column.{Column}
use Rattle.sql_base.specs.declared.shapes.Shape.{Shape}
use Rattle.sql_base.specs.declared.faults.TypeFault.{TypeFault}
use Rattle.sql_base.specs.declared.faults.TypeFault.TheVariants.{NoColumn, Mismatch}
use Rattle.sql_base.specs.Outcome.{and_then, every}

abbrev pub Typed : Type 0
Typed = Result (Option Ty) TypeFault

-- of an arm's condition and of its branch
abbrev pub TypedArm : Type 0
TypedArm = Result (Option Ty × Option Ty) TypeFault

-- ---- what fits what

abbrev pub same : Ty → Ty → Bool
same ty.Bigint ty.Bigint = true
same ty.Text ty.Text = true
same ty.Boolean ty.Boolean = true
same _ _ = false

-- NULL fits every type.
abbrev pub fits : Ty → Option Ty → Bool
fits wanted None = true
fits wanted (Some t) = same wanted t

-- the one type of two parts: NULL where both are NULL
abbrev pub agreed : Option Ty → Option Ty → Typed
agreed None b = Ok b
agreed (Some a) b = if fits a b then Ok (Some a) else Err Mismatch

-- a form whose part has the type `wanted`, and which gives `result`, also where its part is NULL
abbrev pub form : Ty → Ty → Option Ty → Typed
form wanted result a = if fits wanted a then Ok (Some result) else Err Mismatch

abbrev pub form2 : Ty → Ty → Option Ty → Option Ty → Typed
form2 wanted result a b = and_then (form wanted result a) (λ _. form wanted result b)

-- ---- operators

-- Logical operators: PostgreSQL manual, 9.1 Logical Operators.
-- Comparisons, here of two of one type: 9.2 Comparison Functions and Operators.
-- `||`, here of two texts: 9.4 String Functions and Operators.
-- Arithmetic, here of bigint: 9.3 Mathematical Functions and Operators.
abbrev pub binary_type : BinOp → Option Ty → Option Ty → Typed
binary_type op.Or a b = form2 ty.Boolean ty.Boolean a b
binary_type op.And a b = form2 ty.Boolean ty.Boolean a b
binary_type op.Eq a b = and_then (agreed a b) (λ _. Ok (Some ty.Boolean))
binary_type op.Ne a b = and_then (agreed a b) (λ _. Ok (Some ty.Boolean))
binary_type op.Lt a b = and_then (agreed a b) (λ _. Ok (Some ty.Boolean))
binary_type op.Le a b = and_then (agreed a b) (λ _. Ok (Some ty.Boolean))
binary_type op.Gt a b = and_then (agreed a b) (λ _. Ok (Some ty.Boolean))
binary_type op.Ge a b = and_then (agreed a b) (λ _. Ok (Some ty.Boolean))
binary_type op.Concat a b = form2 ty.Text ty.Text a b
binary_type _ a b = form2 ty.Bigint ty.Bigint a b

-- Casts: PostgreSQL manual, 4.2.9 Type Casts. Which there are is our own: to the same type, of bigint and of boolean
-- to text, and of text to all.
abbrev pub casts : Option Ty → Ty → Bool
casts None to = true
casts (Some ty.Text) to = true
casts (Some ty.Bigint) to = same to ty.Bigint || same to ty.Text
casts (Some ty.Boolean) to = same to ty.Boolean || same to ty.Text

-- ---- conditional expressions and functions

-- parts of one type, after those that have the type `so_far`
abbrev pub one_type : Option Ty → List (Option Ty) → Typed
one_type so_far [] = Ok so_far
one_type so_far (t ∷ ts) = and_then (agreed so_far t) (λ both. one_type both ts)

-- CASE: PostgreSQL manual, 9.18.1 CASE. Conditions are boolean, and the branches, with that of ELSE, of one type; so
-- conditions alone never make the whole anything but NULL. `so_far` is the type of the branches before.
abbrev pub case_type : Option Ty → List (Option Ty × Option Ty) → Option Ty → Typed
case_type so_far [] other = agreed so_far other
case_type so_far (arm ∷ arms) other =
    if fits ty.Boolean arm.0 then and_then (agreed so_far arm.1) (λ both. case_type both arms other) else Err Mismatch

-- coalesce and nullif: PostgreSQL manual, 9.18.2 COALESCE and 9.18.3 NULLIF, here of one type.
-- The others: 9.4 String Functions and Operators. With another number of arguments none has a type (our own).
abbrev pub call_type : Func → List (Option Ty) → Typed
call_type func.Coalesce ts = one_type None ts
call_type func.Nullif (a ∷ b ∷ []) = agreed a b
call_type func.Upper (a ∷ []) = form ty.Text ty.Text a
call_type func.Lower (a ∷ []) = form ty.Text ty.Text a
call_type func.Trim (a ∷ []) = form ty.Text ty.Text a
call_type func.Length (a ∷ []) = form ty.Text ty.Bigint a
call_type _ _ = Err Mismatch

-- ---- literals and columns

abbrev pub type_of_value : Value → Option Ty
type_of_value Null = None
type_of_value (Int n) = Some ty.Bigint
type_of_value (Text t) = Some ty.Text
type_of_value (Truth b) = Some ty.Boolean

abbrev pub column_type : List ℕ → Option Column → Typed
column_type name None = Err (NoColumn name)
column_type name (Some column) = Ok (Some column.ty)

abbrev pub column_named : Shape → List ℕ → Option Column
column_named shape name = find (λ c. bytes_eq c.name name) shape.columns

-- ---- the whole tree

-- One level, with the types of its parts in their places.
abbrev pub type_step : Shape → Expr-F Typed TypedArm → Typed
type_step shape (Expr-F.Lit v) = Ok (type_of_value v)
type_step shape (Expr-F.Col name) = column_type name (column_named shape name)
type_step shape (Expr-F.Not a) = and_then a (form ty.Boolean ty.Boolean)
type_step shape (Expr-F.Neg a) = and_then a (form ty.Bigint ty.Bigint)
type_step shape (Expr-F.IsNull a) = and_then a (λ _. Ok (Some ty.Boolean))
type_step shape (Expr-F.Bin op a b) = and_then a (λ x. and_then b (binary_type op x))
type_step shape (Expr-F.Cast a to) = and_then a (λ t. if casts t to then Ok (Some to) else Err Mismatch)
type_step shape (Expr-F.Case arms other) = and_then (every arms) (λ ts. and_then other (case_type None ts))
type_step shape (Expr-F.Call f args) = and_then (every args) (call_type f)

-- of an arm, its condition first
abbrev pub arm_step : Arm-F Typed TypedArm → TypedArm
arm_step a = and_then a.when (λ test. and_then a.gives (λ branch. Ok (test, branch)))

unfoldable pub type_of : Shape → Expr → Typed
type_of shape = fold-Expr Typed TypedArm (type_step shape) arm_step

unfoldable pub types_of_arm : Shape → Arm → TypedArm
types_of_arm shape = fold-Arm Typed TypedArm (type_step shape) arm_step

abbrev pub arms_of : Shape → List Arm → Result (List (Option Ty × Option Ty)) TypeFault
arms_of shape arms = every (map (types_of_arm shape) arms)

abbrev pub every_of : Shape → List Expr → Result (List (Option Ty)) TypeFault
every_of shape args = every (map (type_of shape) args)
