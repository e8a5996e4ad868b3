use Rattle.std.proofs.Common.{◌≡◌, ◌++◌, Ok, drop, map}
use Rattle.sql_base.specs.Outcome.{and_then, every}
use Rattle.row_rules.specs.Settle.{row_evaluated}
use Rattle.row_rules.proofs.inserting.all_evaluated.Given as goal

abbrev pub invariant-loop-row : goal.invariant-loop-row
invariant-loop-row l = and_then (every (map row_evaluated (drop l.row-index l.rows))) (λ rest. Ok (l.all ++ rest)) ≡ every (map row_evaluated l.rows)
