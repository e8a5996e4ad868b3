use Rattle.std.proofs.Common.{◌≡◌, ◌+◌, ◌≤◌, drop}
use Rattle.machine.specs.PutSteps.{fresh_rows}
use Rattle.machine.proofs.may_put.fresh_rows.Given as goal

abbrev pub invariant-loop-change : goal.invariant-loop-change
invariant-loop-change g l = (l.count + fresh_rows (g.T.TableRows.rows l.older) (drop l.change-index l.changes) ≡ fresh_rows (g.T.TableRows.rows l.older) l.changes) × (l.count ≤ l.change-index)
