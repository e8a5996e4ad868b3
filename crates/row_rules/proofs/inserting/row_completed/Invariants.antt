use Rattle.std.proofs.Common.{◌≡◌, ◌++◌, drop, map}
use Rattle.std.specs.List.{enumerate_from, zip}
use Rattle.row_rules.specs.Settle.{row_completed, value_or_default}
use Rattle.row_rules.proofs.inserting.row_completed.Given as goal

abbrev pub invariant-loop-at : goal.invariant-loop-at
invariant-loop-at l =
    l.row ++ map (value_or_default (zip l.places l.values)) (enumerate_from l.at (drop l.at l.shape.columns)) ≡ row_completed l.shape l.places l.values
