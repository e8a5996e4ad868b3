use Rattle.std.proofs.Common.{◌≡◌, ◌++◌, Ok, drop, map}
use Rattle.std.specs.List.{enumerate_from}
use Rattle.sql_base.specs.Outcome.{and_then, every}
use Rattle.row_rules.specs.Settle.{set_settled}
use Rattle.row_rules.proofs.settling.all_settled.Given as goal

abbrev pub invariant-loop-at : goal.invariant-loop-at
invariant-loop-at l =
    and_then (every (map (set_settled l.shape l.names) (enumerate_from l.at (drop l.at l.sets)))) (λ rest. Ok (l.settled ++ rest))
    ≡ every (map (set_settled l.shape l.names) (enumerate_from 0 l.sets))
