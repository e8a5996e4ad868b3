use Rattle.std.proofs.Common.{◌≡◌, ◌≤◌, drop, length}
use Rattle.sql_eval.specs.Row.{least}
use Rattle.row_rules.specs.Rows.{missing_keys}
use Rattle.row_rules.proofs.rows.least_missing.Given as goal

abbrev pub decreases-loop-at : goal.decreases-loop-at
decreases-loop-at g l = l.at

abbrev pub invariant-loop-at : goal.invariant-loop-at
invariant-loop-at g l = (l.at ≤ length (g.T.TableRows.rows l.rows)) × (l.least ≡ least (missing_keys (drop l.at (g.T.TableRows.rows l.rows))))
