use Rattle.std.proofs.Common.{◌≡◌, ◌++◌, Ok, drop}
use Rattle.sql_base.specs.Outcome.{and_then}
use Rattle.row_rules.specs.Causes.{max_reply}
use Rattle.row_rules.specs.Show.{rows_shown}
use Rattle.row_rules.specs.Site.{site_of}
use Rattle.row_rules.proofs.showing.rows_shown.Given as goal

abbrev pub invariant-loop-at : goal.invariant-loop-at
invariant-loop-at g l =
    and_then (rows_shown (site_of l.site) l.items l.condition l.room (drop l.at (g.T.TableRows.rows l.rows))) (λ more. Ok (l.all ++ more))
    ≡ rows_shown (site_of l.site) l.items l.condition max_reply (g.T.TableRows.rows l.rows)
