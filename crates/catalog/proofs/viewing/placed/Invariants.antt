use Rattle.std.proofs.Common.{◌≡◌, ◌++◌, drop}
use Rattle.catalog.specs.Views as spec
use Rattle.catalog.proofs.viewing.placed.Given as goal

-- the columns so far, and then those that are left, are all of them
abbrev pub invariant-loop-at : goal.invariant-loop-at
invariant-loop-at l = l.all ++ spec.placed (drop l.at l.columns) (drop l.at l.positions) ≡ spec.placed l.columns l.positions
