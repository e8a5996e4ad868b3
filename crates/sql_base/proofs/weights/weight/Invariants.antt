use Rattle.std.proofs.Common.{◌≡◌, ◌^◌, ◌-◌, min, take}
use Rattle.sql_base.specs.Weight as spec
use Rattle.sql_base.proofs.weights.weight.Given as goal

abbrev pub invariant-loop-value : goal.invariant-loop-value
invariant-loop-value l = l.total ≡ min (spec.weight (take l.value-index l.values)) (2 ^ 64 - 1)
