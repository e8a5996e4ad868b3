use Rattle.std.proofs.Common.{◌≡◌, drop, map}
use Rattle.sql_eval.specs.Eval.{eval}
use Rattle.sql_eval.specs.Row.{check_fault}
use Rattle.constraint.proofs.faults.check_fault.Given as goal

abbrev pub invariant-loop-at : goal.invariant-loop-at
invariant-loop-at l =
    check_fault l.at (map (λ check. eval l.shape l.row check.expr) (drop l.at l.shape.checks))
    ≡ check_fault 0 (map (λ check. eval l.shape l.row check.expr) l.shape.checks)
