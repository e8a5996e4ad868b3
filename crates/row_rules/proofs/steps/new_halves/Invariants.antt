use Rattle.std.proofs.Common.{◌≡◌, ◌++◌, drop}
use Rattle.row_rules.specs.Accept.{present}
use Rattle.row_rules.specs.Words.{New}
use Rattle.row_rules.proofs.steps.new_halves.Given as goal

abbrev pub invariant-loop-at : goal.invariant-loop-at
invariant-loop-at g l = l.halves ++ present New (drop l.at (g.T.TableRows.rows l.rows)) ≡ present New (g.T.TableRows.rows l.rows)
