-- What a typed expression comes to is of its type: by induction over the tree.
use Rattle.std.proofs.Common.{◌≡◌, ℕ, List, [], ◌∷◌, true, Option, None, refl, subst, map}
use Rattle.sql_base.specs.declared.values.Value.{Value}
use Rattle.sql_base.specs.declared.values.Value.TheVariants.{Null, Int, Text, Bool as Truth}
use Rattle.sql_base.specs.declared.values.Ty.{Ty}
use Rattle.sql_base.specs.declared.exprs.Expr.{Expr}
use Rattle.sql_base.specs.declared.exprs.Arm.{Arm}
use Rattle.sql_base.specs.declared.exprs.Expr.TheOpen.{Expr-F, Arm-F}
use Rattle.sql_base.specs.declared.exprs.Expr.TheViews.{roll-Expr, roll-Arm}
use Rattle.sql_base.specs.declared.exprs.Expr.TheFolds.{ind-Expr, fold-roll-Expr, fold-roll-Arm, map-Expr, map-Arm}
use Rattle.sql_base.specs.declared.exprs.Func.TheVariants as func
use Rattle.sql_base.specs.declared.shapes.Shape.{Shape}
use Rattle.sql_base.specs.Outcome.{and_then, every}
use Rattle.sql_eval.specs.Value.{Outcome}
use Rattle.sql_eval.specs.Typing.{column_named, column_type, Typed, TypedArm, one_type, case_type, type_of, types_of_arm, type_step, type_of_value}
use Rattle.sql_eval.specs.Typing as typed
use Rattle.sql_eval.specs.Eval as valued
use Rattle.sql_eval.specs.Eval.{case, coalesce, column_at, eval, eval_arm, eval_step, value_at}
use Rattle.sql_base.specs.Fit.{has_type}
use Rattle.sql_eval.specs.Laws.{Sound, Suits, TypedIsSound}
use Rattle.sql_eval.proofs.Fitting.{fits_suits}
use Rattle.sql_eval.proofs.Operators.{sound_not, sound_neg, sound_is_null, sound_binary}
use Rattle.sql_eval.proofs.Branches.{branch_of, coalesce_step, case_step, sound_arm, sound_else}
use Rattle.sql_eval.proofs.Calls.{AllAgree, every_step, sound_all, sound_cast_of}

-- Each column's value has the column's type: what is needed of a row that fits.
record Holds (shape : Shape) (row : List Value) : Type 0 where
  columns : (name : List ℕ) → Suits (column_type name (column_named shape name)) (value_at row (column_at shape name))

sound_value : (v : Value) → has_type (type_of_value v) v ≡ true
sound_value Null = refl
sound_value (Int n) = refl
sound_value (Text t) = refl
sound_value (Truth b) = refl

module _ (shape : Shape) (row : List Value) (holds : Holds shape row) where
  abbrev P : Expr → Type 0
  P e = Sound (type_of shape e) (eval shape row e)

  abbrev Q : Arm → Type 0
  Q a = Sound (branch_of (types_of_arm shape a)) (eval_arm shape row a).1

  coalesced : (ys : List ((e : Expr) × P e)) → (so_far : Option Ty) → Sound (and_then (every (map (type_of shape) (map (λ e. e.0) ys))) (one_type so_far)) (coalesce (map (eval shape row) (map (λ e. e.0) ys)))
  coalesced [] so_far = refl
  coalesced (y ∷ ys) so_far =
      coalesce_step (type_of shape y.0) (every (map (type_of shape) (map (λ e. e.0) ys))) (eval shape row y.0) (coalesce (map (eval shape row) (map (λ e. e.0) ys))) y.1 (coalesced ys) so_far

  chosen : (t : Typed) (r : Outcome) → Sound t r → (ys : List ((a : Arm) × Q a)) → (so_far : Option Ty) → Sound (and_then (every (map (types_of_arm shape) (map (λ a. a.0) ys))) (λ ts. and_then t (case_type so_far ts))) (case (map (eval_arm shape row) (map (λ a. a.0) ys)) r)
  chosen t r h [] so_far = sound_else so_far t r h
  chosen t r h (y ∷ ys) so_far =
      case_step (types_of_arm shape y.0) (every (map (types_of_arm shape) (map (λ a. a.0) ys))) t (eval_arm shape row y.0).0 (eval_arm shape row y.0).1 (case (map (eval_arm shape row) (map (λ a. a.0) ys)) r) y.1 (chosen t r h ys) so_far

  everything : (ys : List ((e : Expr) × P e)) → AllAgree (every (map (type_of shape) (map (λ e. e.0) ys))) (every (map (eval shape row) (map (λ e. e.0) ys)))
  everything [] = tt
  everything (y ∷ ys) =
      every_step (type_of shape y.0) (eval shape row y.0) (every (map (type_of shape) (map (λ e. e.0) ys))) (every (map (eval shape row) (map (λ e. e.0) ys))) y.1 (everything ys)

  at : (x : Expr-F Expr Arm) → Sound (type_step shape (map-Expr Expr Arm Typed TypedArm (type_of shape) (types_of_arm shape) x)) (eval_step shape row (map-Expr Expr Arm Outcome (Outcome × Outcome) (eval shape row) (eval_arm shape row) x)) → P (roll-Expr x)
  unfolding eval eval_arm type_of types_of_arm
  at x h =
      let types = fold-roll-Expr Typed TypedArm (type_step shape) typed.arm_step x in
      let values = fold-roll-Expr Outcome (Outcome × Outcome) (eval_step shape row) valued.arm_step x in
      rw (types, values) h

  level : (y : Expr-F ((e : Expr) × P e) ((a : Arm) × Q a)) → P (roll-Expr (map-Expr ((e : Expr) × P e) ((a : Arm) × Q a) Expr Arm (λ e. e.0) (λ a. a.0) y))
  level (Expr-F.Lit v) = at (Expr-F.Lit v) (sound_value v)
  level (Expr-F.Col name) = at (Expr-F.Col name) (holds.columns name)
  level (Expr-F.Not a) = at (Expr-F.Not a.0) (sound_not (type_of shape a.0) (eval shape row a.0))
  level (Expr-F.Neg a) = at (Expr-F.Neg a.0) (sound_neg (type_of shape a.0) (eval shape row a.0))
  level (Expr-F.IsNull a) = at (Expr-F.IsNull a.0) (sound_is_null (type_of shape a.0) (eval shape row a.0))
  level (Expr-F.Bin op a b) = at (Expr-F.Bin op a.0 b.0) (sound_binary op (type_of shape a.0) (type_of shape b.0) (eval shape row a.0) (eval shape row b.0))
  level (Expr-F.Cast a to) = at (Expr-F.Cast a.0 to) (sound_cast_of (type_of shape a.0) (eval shape row a.0) to)
  level (Expr-F.Case arms other) = at (Expr-F.Case (map (λ a. a.0) arms) other.0) (chosen (type_of shape other.0) (eval shape row other.0) other.1 arms None)
  level (Expr-F.Call func.Coalesce args) = at (Expr-F.Call func.Coalesce (map (λ e. e.0) args)) (coalesced args None)
  level (Expr-F.Call func.Nullif args) = at (Expr-F.Call func.Nullif (map (λ e. e.0) args)) (sound_all func.Nullif (every (map (type_of shape) (map (λ e. e.0) args))) (every (map (eval shape row) (map (λ e. e.0) args))) (everything args))
  level (Expr-F.Call func.Upper args) = at (Expr-F.Call func.Upper (map (λ e. e.0) args)) (sound_all func.Upper (every (map (type_of shape) (map (λ e. e.0) args))) (every (map (eval shape row) (map (λ e. e.0) args))) (everything args))
  level (Expr-F.Call func.Lower args) = at (Expr-F.Call func.Lower (map (λ e. e.0) args)) (sound_all func.Lower (every (map (type_of shape) (map (λ e. e.0) args))) (every (map (eval shape row) (map (λ e. e.0) args))) (everything args))
  level (Expr-F.Call func.Trim args) = at (Expr-F.Call func.Trim (map (λ e. e.0) args)) (sound_all func.Trim (every (map (type_of shape) (map (λ e. e.0) args))) (every (map (eval shape row) (map (λ e. e.0) args))) (everything args))
  level (Expr-F.Call func.Length args) = at (Expr-F.Call func.Length (map (λ e. e.0) args)) (sound_all func.Length (every (map (type_of shape) (map (λ e. e.0) args))) (every (map (eval shape row) (map (λ e. e.0) args))) (everything args))

  arm_level : (y : Arm-F ((e : Expr) × P e) ((a : Arm) × Q a)) → Q (roll-Arm (map-Arm ((e : Expr) × P e) ((a : Arm) × Q a) Expr Arm (λ e. e.0) (λ a. a.0) y))
  unfolding eval eval_arm type_of types_of_arm
  arm_level y =
      let types = fold-roll-Arm Typed TypedArm (type_step shape) typed.arm_step (map-Arm ((e : Expr) × P e) ((a : Arm) × Q a) Expr Arm (λ e. e.0) (λ a. a.0) y) in
      let values = fold-roll-Arm Outcome (Outcome × Outcome) (eval_step shape row) valued.arm_step (map-Arm ((e : Expr) × P e) ((a : Arm) × Q a) Expr Arm (λ e. e.0) (λ a. a.0) y) in
      rw (types, values) (sound_arm (type_of shape y.when.0) (type_of shape y.gives.0) (eval shape row y.gives.0) y.gives.1)

sound : (shape : Shape) (row : List Value) (e : Expr) → Holds shape row → Sound (type_of shape e) (eval shape row e)
sound shape row e holds =
    ind-Expr (P shape row holds) (Q shape row holds) (λ x y is. subst (λ z. P shape row holds (roll-Expr z)) is (level shape row holds y)) (λ x y is. subst (λ z. Q shape row holds (roll-Arm z)) is (arm_level shape row holds y)) e

pub typed_is_sound : TypedIsSound
typed_is_sound shape row e h = sound shape row e (record { columns = λ name. fits_suits name shape.columns row h })
