use Rattle.std.proofs.Common.{◌≡◌, ◌≤◌, ◌^◌, ◌-◌, min, max, drop}
use Rattle.sql_base.specs.Tree as spec
use Rattle.sql_base.proofs.trees.+depth.Given as goal

abbrev pub invariant-deepest_arm-loop-arm : goal.invariant-deepest_arm-loop-arm
invariant-deepest_arm-loop-arm l = (l.deepest ≤ 2 ^ 64 - 1) × (min (max l.deepest (spec.deepest_arm (drop l.arm-index l.arms))) (2 ^ 64 - 1) ≡ min (spec.deepest_arm l.arms) (2 ^ 64 - 1))

abbrev pub invariant-deepest_of-loop-e : goal.invariant-deepest_of-loop-e
invariant-deepest_of-loop-e l = (l.deepest ≤ 2 ^ 64 - 1) × (min (max l.deepest (spec.deepest_of (drop l.e-index l.args))) (2 ^ 64 - 1) ≡ min (spec.deepest_of l.args) (2 ^ 64 - 1))
