use Rattle.std.proofs.Common.{◌≡◌, ◌++◌, Ok, drop, map}
use Rattle.sql_base.specs.Outcome.{and_then, every}
use Rattle.row_rules.specs.Changes.{filled_row, put_all}
use Rattle.row_rules.specs.Site.{site_of}
use Rattle.row_rules.proofs.changing.filled_rows.Given as goal

abbrev pub invariant-loop-at : goal.invariant-loop-at
invariant-loop-at g l =
    and_then (put_all (every (map (filled_row (site_of l.site)) (drop l.at (g.T.TableRows.rows l.rows))))) (λ rest. Ok (l.filled ++ rest))
    ≡ put_all (every (map (filled_row (site_of l.site)) (g.T.TableRows.rows l.rows)))
