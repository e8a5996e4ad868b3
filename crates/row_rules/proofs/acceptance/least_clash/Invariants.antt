use Rattle.std.proofs.Common.{◌≡◌, ◌≤◌, drop, length}
use Rattle.std.specs.List.{filter}
use Rattle.sql_eval.specs.Row.{least}
use Rattle.row_rules.specs.Inner.{clashes_beside}
use Rattle.row_rules.proofs.acceptance.least_clash.Given as goal

abbrev pub decreases-loop-at : goal.decreases-loop-at
decreases-loop-at g l = l.at

abbrev pub invariant-loop-at : goal.invariant-loop-at
invariant-loop-at g l =
    (l.at ≤ length l.keys) × (l.least ≡ least (filter (clashes_beside l.unique l.side l.written (g.T.TableRows.rows l.older) l.keys) (drop l.at l.keys)))
