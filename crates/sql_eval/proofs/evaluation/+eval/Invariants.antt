use Rattle.std.proofs.Common.{◌≡◌, drop, max, ◌*◌, ◌+◌, ◌++◌, Ok}
use Rattle.sql_base.specs.declared.exprs.Expr.{size-Expr}
use Rattle.sql_base.specs.Outcome.{and_then}
use Rattle.sql_eval.specs.Eval as spec
use Rattle.sql_eval.proofs.evaluation.+eval.Given as goal

abbrev pub invariant-case-loop-arm : goal.invariant-case-loop-arm
invariant-case-loop-arm l = spec.case_of l.shape l.row (drop l.arm-index l.arms) l.other ≡ spec.case_of l.shape l.row l.arms l.other

abbrev pub invariant-coalesce-loop-e : goal.invariant-coalesce-loop-e
invariant-coalesce-loop-e l = spec.coalesce_of l.shape l.row (drop l.e-index l.args) ≡ spec.coalesce_of l.shape l.row l.args

abbrev pub decreases-eval : goal.decreases-eval
decreases-eval l = 2 * goal.size-eval l

abbrev pub decreases-coalesce : goal.decreases-coalesce
decreases-coalesce l = 2 * goal.size-coalesce l + 1

abbrev pub decreases-case : goal.decreases-case
decreases-case l = 2 * max (goal.size-case l) (size-Expr l.other.now) + 1

abbrev pub invariant-values_of-loop-e : goal.invariant-values_of-loop-e
invariant-values_of-loop-e l = and_then (spec.every_of l.shape l.row (drop l.e-index l.args)) (λ rest. Ok (l.values ++ rest)) ≡ spec.every_of l.shape l.row l.args

abbrev pub decreases-values_of : goal.decreases-values_of
decreases-values_of l = 2 * goal.size-values_of l + 1
