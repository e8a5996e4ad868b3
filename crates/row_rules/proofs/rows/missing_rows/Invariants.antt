use Rattle.std.proofs.Common.{◌≡◌, ◌≤◌, ◌-◌, ◌++◌, drop, length, take}
use Rattle.std.specs.List.{filter}
use Rattle.row_rules.specs.Site.{is_missing}
use Rattle.row_rules.proofs.rows.missing_rows.Given as goal

abbrev pub invariant-loop-at : goal.invariant-loop-at
invariant-loop-at g l = (length l.missing ≤ l.n) × (l.missing ++ take (l.n - length l.missing) (filter is_missing (drop l.at (g.T.TableRows.rows l.rows))) ≡ take l.n (filter is_missing (g.T.TableRows.rows l.rows)))
