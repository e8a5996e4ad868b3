use Rattle.std.proofs.Common.{◌≡◌, ◌++◌, drop, map}
use Rattle.std.specs.List.{enumerate_from}
use Rattle.phase_steps.specs.Places as steps
use Rattle.catalog.specs.Places as lent
use Rattle.catalog.proofs.places.old_places.Given as goal

-- the places so far, and then those of the columns that are left, are all of them
abbrev pub invariant-loop-at : goal.invariant-loop-at
invariant-loop-at l =
    lent.all l.places ++ map (λ column. steps.Own column.0) (enumerate_from l.at (drop l.at l.cells)) ≡ steps.old_places l.cells
