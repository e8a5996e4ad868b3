use Rattle.std.proofs.Common.{◌≡◌, ◌++◌, drop, map}
use Rattle.catalog.specs.Places as lent
use Rattle.catalog.specs.Views as spec
use Rattle.catalog.proofs.viewing.positions_among.Given as goal

-- the positions so far, and then those of the places that are left, are all of them
abbrev pub invariant-loop-place : goal.invariant-loop-place
invariant-loop-place l =
    l.all ++ map (spec.position_among (lent.all l.places)) (lent.all (drop l.place-index l.selected))
    ≡ map (spec.position_among (lent.all l.places)) (lent.all l.selected)
