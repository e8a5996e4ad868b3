use Rattle.std.proofs.Common.{◌≡◌, drop}
use Rattle.sql_eval.specs.Row.{null_fault}
use Rattle.constraint.proofs.faults.null_at.Given as goal

abbrev pub invariant-loop-at : goal.invariant-loop-at
invariant-loop-at l = null_fault l.at (drop l.at l.columns) (drop l.at l.row) ≡ null_fault 0 l.columns l.row
