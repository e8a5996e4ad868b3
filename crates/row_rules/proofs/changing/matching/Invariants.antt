use Rattle.std.proofs.Common.{◌≡◌, ◌++◌, Ok, drop}
use Rattle.sql_base.specs.Outcome.{and_then}
use Rattle.row_rules.specs.Changes.{matching}
use Rattle.row_rules.specs.Site.{site_of}
use Rattle.row_rules.proofs.changing.matching.Given as goal

abbrev pub invariant-loop-at : goal.invariant-loop-at
invariant-loop-at g l = and_then (matching (site_of l.site) l.condition (drop l.at (g.T.TableRows.rows l.rows))) (λ rest. Ok (l.matching ++ rest)) ≡ matching (site_of l.site) l.condition (g.T.TableRows.rows l.rows)
