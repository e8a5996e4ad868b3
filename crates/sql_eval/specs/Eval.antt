-- The value of an expression over a row, by recursion on the tree and from left to right: a fault of a part is the
-- fault of the whole. PostgreSQL leaves the order open (manual, 4.2.14 Expression Evaluation Rules); ours is fixed.
use Rattle.std.specs.Prelude.{ℕ, true, List, [], ◌∷◌, map, slice_index_or, Option, Some, None, Result, Ok, if◌then◌else◌}
use Rattle.std.specs.List.{position}
use Rattle.std.specs.Str.{bytes_eq}
use Rattle.sql_base.specs.declared.values.Value.{Value}
use Rattle.sql_base.specs.declared.values.Value.TheVariants.{Null, Bool as Truth}
use Rattle.sql_base.specs.declared.exprs.Expr.{Expr}
use Rattle.sql_base.specs.declared.exprs.Arm.{Arm}
use Rattle.sql_base.specs.declared.exprs.Expr.TheOpen.{Expr-F, Arm-F}
use Rattle.sql_base.specs.declared.exprs.Expr.TheFolds.{fold-Expr, fold-Arm}
use Rattle.sql_base.specs.declared.exprs.BinOp.{BinOp}
use Rattle.sql_base.specs.declared.exprs.Func.{Func}
use Rattle.sql_base.specs.declared.exprs.Func.TheVariants as func
use Rattle.sql_base.specs.declared.shapes.Shape.{Shape}
use Rattle.sql_base.specs.declared.faults.EvalFault.{EvalFault}
use Rattle.sql_eval.specs.Cast.{cast, called}
use Rattle.sql_base.specs.Outcome.{and_then, every}
use Rattle.sql_eval.specs.Value.{Outcome, is_null, is_truth, negated, inverted, settles, applied}

-- where the shape has the column of a name
abbrev pub column_at : Shape → List ℕ → Option ℕ
column_at shape name = position (λ c. bytes_eq c.name name) shape.columns

abbrev pub value_at : List Value → Option ℕ → Value
value_at row None = Null
value_at row (Some at) = slice_index_or row at Null

-- AND and OR look at the right side only where the left does not decide; all other operators look at both.
abbrev pub binary : BinOp → Outcome → Outcome → Outcome
binary op left right = and_then left (λ x. if settles op x then Ok x else and_then right (applied op x))

-- PostgreSQL manual, 9.18.1 CASE: conditions in turn up to the first true one, and then that branch alone.
abbrev pub case : List (Outcome × Outcome) → Outcome → Outcome
case [] other = other
case (arm ∷ arms) other = and_then arm.0 (λ test. if is_truth true test then arm.1 else case arms other)

-- PostgreSQL manual, 9.18.2 COALESCE: the first value that is not NULL, and nothing after it.
abbrev pub coalesce : List Outcome → Outcome
coalesce [] = Ok Null
coalesce (r ∷ rs) = and_then r (λ x. if is_null x then coalesce rs else Ok x)

-- All other functions look at all their arguments.
abbrev pub call : Func → List Outcome → Outcome
call func.Coalesce args = coalesce args
call f args = and_then (every args) (called f)

-- One level, with what its parts come to in their places.
abbrev pub eval_step : Shape → List Value → Expr-F Outcome (Outcome × Outcome) → Outcome
eval_step shape row (Expr-F.Lit v) = Ok v
eval_step shape row (Expr-F.Col name) = Ok (value_at row (column_at shape name))
eval_step shape row (Expr-F.Not a) = and_then a (λ x. Ok (inverted x))
eval_step shape row (Expr-F.Neg a) = and_then a negated
eval_step shape row (Expr-F.IsNull a) = and_then a (λ x. Ok (Truth (is_null x)))
eval_step shape row (Expr-F.Bin op a b) = binary op a b
eval_step shape row (Expr-F.Cast a to) = and_then a (λ x. cast x to)
eval_step shape row (Expr-F.Case arms other) = case arms other
eval_step shape row (Expr-F.Call f args) = call f args

abbrev pub arm_step : Arm-F Outcome (Outcome × Outcome) → Outcome × Outcome
arm_step a = (a.when, a.gives)

unfoldable pub eval : Shape → List Value → Expr → Outcome
eval shape row = fold-Expr Outcome (Outcome × Outcome) (eval_step shape row) arm_step

-- what the condition and the branch come to
unfoldable pub eval_arm : Shape → List Value → Arm → Outcome × Outcome
eval_arm shape row = fold-Arm Outcome (Outcome × Outcome) (eval_step shape row) arm_step

abbrev pub case_of : Shape → List Value → List Arm → Expr → Outcome
case_of shape row arms other = case (map (eval_arm shape row) arms) (eval shape row other)

abbrev pub coalesce_of : Shape → List Value → List Expr → Outcome
coalesce_of shape row args = coalesce (map (eval shape row) args)

abbrev pub every_of : Shape → List Value → List Expr → Result (List Value) EvalFault
every_of shape row args = every (map (eval shape row) args)
