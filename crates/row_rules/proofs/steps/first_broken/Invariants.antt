use Rattle.std.proofs.Common.{◌≡◌, drop}
use Rattle.row_rules.specs.Inner.{half_broken}
use Rattle.row_rules.specs.Outcome.{first_some}
use Rattle.row_rules.proofs.steps.first_broken.Given as goal

abbrev pub invariant-loop-at : goal.invariant-loop-at
invariant-loop-at g l = first_some (half_broken l.table) (drop l.at (g.T.TableRows.rows l.rows)) ≡ first_some (half_broken l.table) (g.T.TableRows.rows l.rows)
