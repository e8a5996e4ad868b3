-- Each position is added behind those of the places before it.
use Rattle.catalog.specs.Places as lent
use Rattle.catalog.specs.Views as spec
use Rattle.catalog.proofs.Positions.{one_more}
use Rattle.catalog.proofs.viewing.positions_among.Goals as goal

pub loop-place-preserved : goal.loop-place-preserved
loop-place-preserved c =
    rw (c.in_ok-push.ensures.ok, c.position_among.ensures)
    (one_more (spec.position_among (lent.all c.args.places.now)) lent.place c.loop-place.all _ c.args.selected.now c.loop-place.place-index _ c.loop-place-test.true c.loop-place.invariant)
