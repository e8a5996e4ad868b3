use Rattle.std.proofs.Common.{◌≡◌, take}
use Rattle.sql_base.proofs.exprs.+copy.Given as goal

abbrev pub invariant-copy_all-loop-e : goal.invariant-copy_all-loop-e
invariant-copy_all-loop-e l = l.copy ≡ take l.e-index l.e-items

abbrev pub invariant-copy_arms-loop-arm : goal.invariant-copy_arms-loop-arm
invariant-copy_arms-loop-arm l = l.copy ≡ take l.arm-index l.arm-items
