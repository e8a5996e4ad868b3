use Rattle.std.proofs.Common.{◌≡◌, drop}
use Rattle.std.specs.List.{list_all}
use Rattle.machine.specs.MayPut.{may_hold, rows_left}
use Rattle.machine.proofs.may_put.rows_hold.Given as goal

abbrev pub invariant-loop-at : goal.invariant-loop-at
invariant-loop-at l = list_all (may_hold l.frame l.number) (rows_left (drop l.at l.changes)) ≡ list_all (may_hold l.frame l.number) (rows_left l.changes)
