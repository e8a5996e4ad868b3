use Rattle.std.proofs.Common.{◌≡◌, ◌++◌, drop}
use Rattle.mig_plan.specs.Constraints as spec
use Rattle.mig_plan.proofs.constraints.names_in.Given as goal

abbrev pub invariant-loop-column : goal.invariant-loop-column
invariant-loop-column l = l.names ++ spec.names_in l.expr (drop l.column-index l.columns) ≡ spec.names_in l.expr l.columns
