use Rattle.std.proofs.Common.{◌≡◌, ◌+◌, ◌≤◌, drop}
use Rattle.machine.specs.MayPut.{rows_gone}
use Rattle.machine.proofs.may_put.rows_gone.Given as goal

abbrev pub invariant-loop-at : goal.invariant-loop-at
invariant-loop-at g l = (l.count + rows_gone (g.T.TableRows.rows l.older) (drop l.at l.changes) ≡ rows_gone (g.T.TableRows.rows l.older) l.changes) × (l.count ≤ l.at)
