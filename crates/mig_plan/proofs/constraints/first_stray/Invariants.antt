use Rattle.std.proofs.Common.{◌≡◌, drop}
use Rattle.mig_plan.specs.Constraints as spec
use Rattle.mig_plan.proofs.constraints.first_stray.Given as goal

-- the first fault of those that are left is that of all of them
abbrev pub invariant-loop-pair : goal.invariant-loop-pair
invariant-loop-pair l = spec.first_of (spec.stray_fault l.title l.columns) (drop l.pair-index l.pairs) ≡ spec.first_of (spec.stray_fault l.title l.columns) l.pairs
