use Rattle.std.proofs.Common.{◌≡◌, drop, map}
use Rattle.mig_plan.specs.Versions.{first}
use Rattle.mig_plan.specs.Constraints as spec
use Rattle.mig_plan.proofs.constraints.first_absent.Given as goal

-- the first fault of those that are left is that of all of them
abbrev pub invariant-loop-name : goal.invariant-loop-name
invariant-loop-name l = first (map (spec.absent_fault l.title l.table) (drop l.name-index l.columns)) ≡ first (map (spec.absent_fault l.title l.table) l.columns)
