use Rattle.std.proofs.Common.{◌≡◌, ◌++◌, drop, not}
use Rattle.std.specs.Prelude.{filter}
use Rattle.mig_plan.specs.Draft.{is_unique_named}
use Rattle.mig_plan.proofs.constraints.uniques_without.Given as goal

abbrev pub invariant-loop-unique : goal.invariant-loop-unique
invariant-loop-unique l = l.left ++ filter (λ unique. not (is_unique_named l.name unique)) (drop l.unique-index l.uniques) ≡ filter (λ unique. not (is_unique_named l.name unique)) l.uniques
