use Rattle.std.proofs.Common.{◌≡◌, ◌++◌, drop, map}
use Rattle.std.specs.List.{enumerate_from}
use Rattle.catalog.specs.Views as spec
use Rattle.catalog.proofs.viewing.own_positions.Given as goal

-- the positions so far, and then those of the columns that are left, are all of them
abbrev pub invariant-loop-at : goal.invariant-loop-at
invariant-loop-at l =
    l.all ++ map (λ column. column.0) (enumerate_from l.at (drop l.at l.columns)) ≡ spec.own_positions l.columns
