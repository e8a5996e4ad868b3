use Rattle.std.proofs.Common.{◌≡◌, ◌+◌, ◌≤◌, drop, length}
use Rattle.machine.specs.MayPut.{rows_left}
use Rattle.machine.proofs.may_put.rows_left.Given as goal

abbrev pub invariant-loop-at : goal.invariant-loop-at
invariant-loop-at l = (l.count + length (rows_left (drop l.at l.changes)) ≡ length (rows_left l.changes)) × (l.count ≤ l.at)
