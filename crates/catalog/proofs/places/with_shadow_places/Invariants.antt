use Rattle.std.proofs.Common.{◌≡◌, ◌++◌, drop, filter, map}
use Rattle.std.specs.List.{enumerate_from}
use Rattle.phase_steps.specs.Places as steps
use Rattle.phase_steps.specs.Rows as rows
use Rattle.catalog.specs.Places as lent
use Rattle.catalog.proofs.places.with_shadow_places.Given as goal

-- the places so far, and then those of the columns that are left, are all of them
abbrev pub invariant-loop-at : goal.invariant-loop-at
invariant-loop-at l =
    lent.all l.places
    ++ map (λ column. steps.Shadow column.0) (filter (λ column. rows.is_shadow column.1) (enumerate_from l.at (drop l.at l.cells)))
    ≡ lent.all l.initial.places ++ steps.shadow_places l.cells
