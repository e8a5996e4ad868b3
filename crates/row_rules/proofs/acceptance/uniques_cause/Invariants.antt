use Rattle.std.proofs.Common.{◌≡◌, drop}
use Rattle.row_rules.specs.Inner.{unique_beside}
use Rattle.row_rules.specs.Outcome.{first_some}
use Rattle.row_rules.proofs.acceptance.uniques_cause.Given as goal

abbrev pub invariant-loop-unique : goal.invariant-loop-unique
invariant-loop-unique g l =
    first_some (unique_beside l.side l.written (g.T.TableRows.rows l.older) l.keys) (drop l.unique-index l.uniques)
    ≡ first_some (unique_beside l.side l.written (g.T.TableRows.rows l.older) l.keys) l.uniques
