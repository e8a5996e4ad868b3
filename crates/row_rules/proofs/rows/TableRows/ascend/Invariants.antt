use Rattle.std.proofs.Common.{◌≤◌, ◌-◌, drop, length}
use Rattle.row_rules.specs.Rows.{Ascends}
use Rattle.row_rules.proofs.rows.TableRows.ascend.Given as goal

abbrev pub decreases-loop-at : goal.decreases-loop-at
decreases-loop-at g l = l.at

abbrev pub invariant-loop-at : goal.invariant-loop-at
invariant-loop-at g l = (l.at ≤ length (g.Self.TableRows.rows l.self)) × Ascends (drop (l.at - 1) (g.Self.TableRows.rows l.self))
