use Rattle.std.proofs.Common.{◌≡◌, ◌++◌, Ok, drop, map}
use Rattle.std.specs.List.{enumerate_from}
use Rattle.sql_base.specs.Outcome.{and_then, every}
use Rattle.row_rules.specs.Settle.{named_once}
use Rattle.row_rules.proofs.inserting.places_listed.Given as goal

abbrev pub invariant-loop-at : goal.invariant-loop-at
invariant-loop-at l =
    and_then (every (map (named_once l.shape l.names) (enumerate_from l.at (drop l.at l.names)))) (λ rest. Ok (l.places ++ rest))
    ≡ every (map (named_once l.shape l.names) (enumerate_from 0 l.names))
