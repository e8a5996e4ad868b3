use Rattle.std.proofs.Common.{◌≡◌, drop}
use Rattle.std.specs.List.{list_any}
use Rattle.row_rules.specs.Site.{is_missing}
use Rattle.row_rules.proofs.rows.any_missing.Given as goal

abbrev pub invariant-loop-at : goal.invariant-loop-at
invariant-loop-at g l = list_any is_missing (drop l.at (g.T.TableRows.rows l.rows)) ≡ list_any is_missing (g.T.TableRows.rows l.rows)
