use Rattle.std.proofs.Common.{◌≡◌, ◌++◌, drop, not}
use Rattle.std.specs.Prelude.{filter}
use Rattle.mig_plan.specs.Draft.{is_check_named}
use Rattle.mig_plan.proofs.constraints.checks_without.Given as goal

abbrev pub invariant-loop-check : goal.invariant-loop-check
invariant-loop-check l = l.left ++ filter (λ check. not (is_check_named l.name check)) (drop l.check-index l.checks) ≡ filter (λ check. not (is_check_named l.name check)) l.checks
