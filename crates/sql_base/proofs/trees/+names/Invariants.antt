use Rattle.std.proofs.Common.{◌≡◌, drop}
use Rattle.sql_base.specs.Tree as spec
use Rattle.sql_base.proofs.trees.+names.Given as goal

abbrev pub invariant-an_arm_names-loop-arm : goal.invariant-an_arm_names-loop-arm
invariant-an_arm_names-loop-arm l = spec.an_arm_names l.name (drop l.arm-index l.arms) ≡ spec.an_arm_names l.name l.arms

abbrev pub invariant-one_names-loop-e : goal.invariant-one_names-loop-e
invariant-one_names-loop-e l = spec.one_names l.name (drop l.e-index l.args) ≡ spec.one_names l.name l.args
