use Rattle.std.proofs.Common.{◌≡◌, ◌≤◌, drop, length}
use Rattle.row_rules.specs.Changes.{rows_put}
use Rattle.row_rules.specs.Inner.{least_taken}
use Rattle.row_rules.proofs.together.least_taken.Given as goal

abbrev pub decreases-loop-at : goal.decreases-loop-at
decreases-loop-at g l = l.at

abbrev pub invariant-loop-at : goal.invariant-loop-at
invariant-loop-at g l = (l.at ≤ length l.changes) × (l.least ≡ least_taken (g.T.TableRows.rows l.older) (rows_put l.changes) (rows_put (drop l.at l.changes)))
