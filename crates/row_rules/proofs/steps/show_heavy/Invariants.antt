use Rattle.std.proofs.Common.{◌≡◌, drop}
use Rattle.std.specs.List.{list_any}
use Rattle.row_rules.specs.Steps.{shows_heavy}
use Rattle.row_rules.proofs.steps.show_heavy.Given as goal

abbrev pub invariant-loop-at : goal.invariant-loop-at
invariant-loop-at g l = list_any (shows_heavy l.lens) (drop l.at (g.T.TableRows.rows l.rows)) ≡ list_any (shows_heavy l.lens) (g.T.TableRows.rows l.rows)
