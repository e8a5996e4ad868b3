use Rattle.std.proofs.Common.{◌≡◌, ◌++◌, drop, not}
use Rattle.std.specs.Prelude.{filter}
use Rattle.sql_base.specs.Tree.{names_column}
use Rattle.mig_plan.proofs.standing.checks_without.Given as goal

abbrev pub invariant-loop-check : goal.invariant-loop-check
invariant-loop-check l = l.left ++ filter (λ check. not (names_column l.name check.check.expr)) (drop l.check-index l.checks) ≡ filter (λ check. not (names_column l.name check.check.expr)) l.checks
