use Rattle.std.proofs.Common.{◌≡◌, drop}
use Rattle.mig_plan.specs.Constraints as spec
use Rattle.mig_plan.proofs.constraints.first_twice.Given as goal

-- the first fault of those that are left is that of all of them
abbrev pub invariant-loop-pair : goal.invariant-loop-pair
invariant-loop-pair l = spec.first_of (spec.twice_named l.title l.table) (drop l.pair-index l.pairs) ≡ spec.first_of (spec.twice_named l.title l.table) l.pairs
