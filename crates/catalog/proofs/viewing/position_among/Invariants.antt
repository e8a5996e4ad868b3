use Rattle.std.proofs.Common.{◌≡◌, ◌+◌, drop}
use Rattle.catalog.specs.Places as lent
use Rattle.catalog.specs.Views as spec
use Rattle.catalog.proofs.viewing.position_among.Given as goal

-- the place is none of those so far
abbrev pub invariant-loop-at : goal.invariant-loop-at
invariant-loop-at l =
    l.at + spec.position_among (lent.all (drop l.at l.places)) (lent.place l.wanted)
    ≡ spec.position_among (lent.all l.places) (lent.place l.wanted)
