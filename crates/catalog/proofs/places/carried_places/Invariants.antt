use Rattle.std.proofs.Common.{◌≡◌, ◌++◌, drop, filter, map}
use Rattle.std.specs.List.{enumerate_from}
use Rattle.mig_lens.specs.Lens as lenses
use Rattle.phase_steps.specs.Places as steps
use Rattle.catalog.specs.Places as lent
use Rattle.catalog.proofs.places.carried_places.Given as goal

-- the places so far, and then those of the carried columns that are left, are all of them
abbrev pub invariant-loop-at : goal.invariant-loop-at
invariant-loop-at l =
    lent.all l.places
    ++ map (λ column. steps.Own column.0) (filter (λ column. lenses.is_carry column.1) (enumerate_from l.at (drop l.at l.cells)))
    ≡ steps.carried_places l.cells
