use Rattle.std.proofs.Common.{◌≡◌, ◌++◌, drop}
use Rattle.row_rules.proofs.rows.all_rows.Given as goal

abbrev pub invariant-loop-at : goal.invariant-loop-at
invariant-loop-at g l = l.all ++ drop l.at (g.T.TableRows.rows l.rows) ≡ g.T.TableRows.rows l.rows
