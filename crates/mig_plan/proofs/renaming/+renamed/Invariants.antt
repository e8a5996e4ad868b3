use Rattle.std.proofs.Common.{◌≡◌, take}
use Rattle.mig_plan.specs.Renaming as spec
use Rattle.mig_plan.proofs.renaming.+renamed.Given as goal

abbrev pub invariant-all_renamed-loop-e : goal.invariant-all_renamed-loop-e
invariant-all_renamed-loop-e l = l.others ≡ spec.all_renamed l.from l.to (take l.e-index l.e-items)

abbrev pub invariant-arms_renamed-loop-arm : goal.invariant-arms_renamed-loop-arm
invariant-arms_renamed-loop-arm l = l.others ≡ spec.arms_renamed l.from l.to (take l.arm-index l.arm-items)
