-- Typing wants no memory by its definition: by induction over the tree.
use Rattle.std.proofs.Common.{◌≢◌, ℕ, List, [], ◌∷◌, Bool, Option, Some, None, Result, Ok, Err, if◌then◌else◌, map, subst}
use Rattle.sql_base.specs.declared.values.Ty.{Ty}
use Rattle.sql_base.specs.declared.values.Ty.TheVariants as ty
use Rattle.sql_base.specs.declared.exprs.Expr.{Expr}
use Rattle.sql_base.specs.declared.exprs.Arm.{Arm}
use Rattle.sql_base.specs.declared.exprs.Expr.TheOpen.{Expr-F, Arm-F}
use Rattle.sql_base.specs.declared.exprs.Expr.TheViews.{roll-Expr, roll-Arm}
use Rattle.sql_base.specs.declared.exprs.Expr.TheFolds.{ind-Expr, fold-roll-Expr, fold-roll-Arm, map-Expr, map-Arm}
use Rattle.sql_base.specs.declared.exprs.BinOp.{BinOp}
use Rattle.sql_base.specs.declared.exprs.BinOp.TheVariants as op
use Rattle.sql_base.specs.declared.exprs.Func.{Func}
use Rattle.sql_base.specs.declared.exprs.Func.TheVariants as func
use Rattle.sql_base.specs.declared.faults.TypeFault.{TypeFault}
use Rattle.sql_base.specs.declared.faults.TypeFault.TheVariants as fault
use Rattle.sql_base.specs.declared.shapes.Column.{Column}
use Rattle.sql_base.specs.declared.shapes.Shape.{Shape}
use Rattle.sql_base.specs.Laws.{OnlyFaults, faults_either, faults_then}
use Rattle.sql_base.specs.Outcome.{and_then, every}
use Rattle.sql_eval.specs.Laws.{TypingWantsNothing}
use Rattle.sql_eval.specs.Typing as typed
use Rattle.sql_eval.specs.Typing.{Typed, TypedArm, agreed, binary_type, call_type, case_type, casts, column_named, column_type, fits, form, form2, one_type, type_of, type_step, types_of_arm}

abbrev OfTypes : TypeFault → Type 0
OfTypes (fault.NoColumn name) = Unit {0}
OfTypes fault.Mismatch = Unit {0}
OfTypes fault.NoMemory = ⊥

abbrev Fine : {T : Type 0} → Result T TypeFault → Type 0
Fine r = OnlyFaults OfTypes r

next_fine : {T U : Type 0} (r : Result T TypeFault) (next : T → Result U TypeFault) → Fine r → ((x : T) → Fine (next x)) → Fine (and_then r next)
next_fine r next h more = faults_then OfTypes r next h more

-- a form that has a type where a test holds
tested : (test : Bool) (r : Typed) → Fine r → Fine (if test then r else Err fault.Mismatch)
tested test r h = faults_either OfTypes test r (Err fault.Mismatch) h tt

form_fine : (wanted gives : Ty) (a : Option Ty) → Fine (form wanted gives a)
form_fine wanted gives a = tested (fits wanted a) (Ok (Some gives)) tt

form2_fine : (wanted gives : Ty) (a b : Option Ty) → Fine (form2 wanted gives a b)
form2_fine wanted gives a b = next_fine (form wanted gives a) (λ _. form wanted gives b) (form_fine wanted gives a) (λ _. form_fine wanted gives b)

agreed_fine : (a b : Option Ty) → Fine (agreed a b)
agreed_fine None b = tt
agreed_fine (Some a) b = tested (fits a b) (Ok (Some a)) tt

compared : (a b : Option Ty) → Fine (and_then (agreed a b) (λ _. Ok (Some ty.Boolean)))
compared a b = next_fine (agreed a b) (λ _. Ok (Some ty.Boolean)) (agreed_fine a b) (λ _. tt)

binary_fine : (o : BinOp) (a b : Option Ty) → Fine (binary_type o a b)
binary_fine op.Or a b = form2_fine ty.Boolean ty.Boolean a b
binary_fine op.And a b = form2_fine ty.Boolean ty.Boolean a b
binary_fine op.Eq a b = compared a b
binary_fine op.Ne a b = compared a b
binary_fine op.Lt a b = compared a b
binary_fine op.Le a b = compared a b
binary_fine op.Gt a b = compared a b
binary_fine op.Ge a b = compared a b
binary_fine op.Concat a b = form2_fine ty.Text ty.Text a b
binary_fine op.Add a b = form2_fine ty.Bigint ty.Bigint a b
binary_fine op.Sub a b = form2_fine ty.Bigint ty.Bigint a b
binary_fine op.Mul a b = form2_fine ty.Bigint ty.Bigint a b
binary_fine op.Div a b = form2_fine ty.Bigint ty.Bigint a b
binary_fine op.Rem a b = form2_fine ty.Bigint ty.Bigint a b

one_fine : (so_far : Option Ty) (ts : List (Option Ty)) → Fine (one_type so_far ts)
one_fine so_far [] = tt
one_fine so_far (t ∷ ts) = next_fine (agreed so_far t) (λ both. one_type both ts) (agreed_fine so_far t) (λ both. one_fine both ts)

case_fine : (so_far : Option Ty) (arms : List (Option Ty × Option Ty)) (other : Option Ty) → Fine (case_type so_far arms other)
case_fine so_far [] other = agreed_fine so_far other
case_fine so_far (arm ∷ arms) other =
    let rest : Option Ty → Typed = λ both. case_type both arms other in
    tested (fits ty.Boolean arm.0) (and_then (agreed so_far arm.1) rest) (next_fine (agreed so_far arm.1) rest (agreed_fine so_far arm.1) (λ both. case_fine both arms other))

call_fine : (f : Func) (ts : List (Option Ty)) → Fine (call_type f ts)
call_fine func.Coalesce ts = one_fine None ts
call_fine func.Nullif [] = tt
call_fine func.Nullif (a ∷ []) = tt
call_fine func.Nullif (a ∷ b ∷ []) = agreed_fine a b
call_fine func.Nullif (a ∷ b ∷ c ∷ ts) = tt
call_fine func.Upper [] = tt
call_fine func.Upper (a ∷ []) = form_fine ty.Text ty.Text a
call_fine func.Upper (a ∷ b ∷ ts) = tt
call_fine func.Lower [] = tt
call_fine func.Lower (a ∷ []) = form_fine ty.Text ty.Text a
call_fine func.Lower (a ∷ b ∷ ts) = tt
call_fine func.Trim [] = tt
call_fine func.Trim (a ∷ []) = form_fine ty.Text ty.Text a
call_fine func.Trim (a ∷ b ∷ ts) = tt
call_fine func.Length [] = tt
call_fine func.Length (a ∷ []) = form_fine ty.Text ty.Bigint a
call_fine func.Length (a ∷ b ∷ ts) = tt

column_fine : (name : List ℕ) (column : Option Column) → Fine (column_type name column)
column_fine name None = tt
column_fine name (Some column) = tt

-- ---- the whole tree

module _ (shape : Shape) where
  abbrev P : Expr → Type 0
  P e = Fine (type_of shape e)

  abbrev Q : Arm → Type 0
  Q a = Fine (types_of_arm shape a)

  everything : (ys : List ((e : Expr) × P e)) → Fine (every (map (type_of shape) (map (λ e. e.0) ys)))
  everything [] = tt
  everything (y ∷ ys) =
      let rest = every (map (type_of shape) (map (λ e. e.0) ys)) in
      next_fine (type_of shape y.0) (λ x. and_then rest (λ xs. Ok (x ∷ xs))) y.1 (λ x. next_fine rest (λ xs. Ok (x ∷ xs)) (everything ys) (λ xs. tt))

  every_arm : (ys : List ((a : Arm) × Q a)) → Fine (every (map (types_of_arm shape) (map (λ a. a.0) ys)))
  every_arm [] = tt
  every_arm (y ∷ ys) =
      let rest = every (map (types_of_arm shape) (map (λ a. a.0) ys)) in
      next_fine (types_of_arm shape y.0) (λ x. and_then rest (λ xs. Ok (x ∷ xs))) y.1 (λ x. next_fine rest (λ xs. Ok (x ∷ xs)) (every_arm ys) (λ xs. tt))

  at : (x : Expr-F Expr Arm) → Fine (type_step shape (map-Expr Expr Arm Typed TypedArm (type_of shape) (types_of_arm shape) x)) → P (roll-Expr x)
  unfolding type_of types_of_arm
  at x h = rw (fold-roll-Expr Typed TypedArm (type_step shape) typed.arm_step x) h

  level : (y : Expr-F ((e : Expr) × P e) ((a : Arm) × Q a)) → P (roll-Expr (map-Expr ((e : Expr) × P e) ((a : Arm) × Q a) Expr Arm (λ e. e.0) (λ a. a.0) y))
  level (Expr-F.Lit v) = at (Expr-F.Lit v) tt
  level (Expr-F.Col name) = at (Expr-F.Col name) (column_fine name (column_named shape name))
  level (Expr-F.Not a) = at (Expr-F.Not a.0) (next_fine (type_of shape a.0) (form ty.Boolean ty.Boolean) a.1 (form_fine ty.Boolean ty.Boolean))
  level (Expr-F.Neg a) = at (Expr-F.Neg a.0) (next_fine (type_of shape a.0) (form ty.Bigint ty.Bigint) a.1 (form_fine ty.Bigint ty.Bigint))
  level (Expr-F.IsNull a) = at (Expr-F.IsNull a.0) (next_fine (type_of shape a.0) (λ _. Ok (Some ty.Boolean)) a.1 (λ _. tt))
  level (Expr-F.Bin op a b) = at (Expr-F.Bin op a.0 b.0) (next_fine (type_of shape a.0) (λ x. and_then (type_of shape b.0) (binary_type op x)) a.1 (λ x. next_fine (type_of shape b.0) (binary_type op x) b.1 (binary_fine op x)))
  level (Expr-F.Cast a to) = at (Expr-F.Cast a.0 to) (next_fine (type_of shape a.0) (λ t. if casts t to then Ok (Some to) else Err fault.Mismatch) a.1 (λ t. tested (casts t to) (Ok (Some to)) tt))
  level (Expr-F.Case arms other) =
      let tests = every (map (types_of_arm shape) (map (λ a. a.0) arms)) in
      at (Expr-F.Case (map (λ a. a.0) arms) other.0) (next_fine tests (λ ts. and_then (type_of shape other.0) (case_type None ts)) (every_arm arms) (λ ts. next_fine (type_of shape other.0) (case_type None ts) other.1 (case_fine None ts)))
  level (Expr-F.Call f args) = at (Expr-F.Call f (map (λ e. e.0) args)) (next_fine (every (map (type_of shape) (map (λ e. e.0) args))) (call_type f) (everything args) (call_fine f))

  arm_level : (y : Arm-F ((e : Expr) × P e) ((a : Arm) × Q a)) → Q (roll-Arm (map-Arm ((e : Expr) × P e) ((a : Arm) × Q a) Expr Arm (λ e. e.0) (λ a. a.0) y))
  unfolding type_of types_of_arm
  arm_level y =
      let types = fold-roll-Arm Typed TypedArm (type_step shape) typed.arm_step (map-Arm ((e : Expr) × P e) ((a : Arm) × Q a) Expr Arm (λ e. e.0) (λ a. a.0) y) in
      rw types (next_fine (type_of shape y.when.0) _ y.when.1 (λ test. next_fine (type_of shape y.gives.0) (λ branch. Ok (test, branch)) y.gives.1 (λ branch. tt)))

  fine : (e : Expr) → P e
  fine e = ind-Expr P Q (λ x y is. subst (λ z. P (roll-Expr z)) is (level y)) (λ x y is. subst (λ z. Q (roll-Arm z)) is (arm_level y)) e

never : (r : Typed) → Fine r → r ≢ Err fault.NoMemory
never r h e = subst Fine e h

pub typing_wants_nothing : TypingWantsNothing
typing_wants_nothing shape e = never (type_of shape e) (fine shape e)
