use Rattle.std.proofs.Common.{◌≡◌, ◌++◌, drop, not}
use Rattle.std.specs.Prelude.{filter}
use Rattle.mig_plan.specs.Columns.{unique_names}
use Rattle.mig_plan.proofs.standing.uniques_without.Given as goal

abbrev pub invariant-loop-unique : goal.invariant-loop-unique
invariant-loop-unique l = l.left ++ filter (λ unique. not (unique_names l.columns l.name unique)) (drop l.unique-index l.uniques) ≡ filter (λ unique. not (unique_names l.columns l.name unique)) l.uniques
