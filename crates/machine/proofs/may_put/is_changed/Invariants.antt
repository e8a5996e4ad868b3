use Rattle.std.proofs.Common.{◌≡◌, drop}
use Rattle.machine.specs.MayPut.{is_changed}
use Rattle.machine.proofs.may_put.is_changed.Given as goal

abbrev pub invariant-loop-change : goal.invariant-loop-change
invariant-loop-change l = is_changed l.key (drop l.change-index l.later) ≡ is_changed l.key l.later
