use Rattle.std.proofs.Common.{◌≡◌, ◌+◌, arith, subst}
use Rattle.machine.proofs.Losing.{lost_there, lost_weight_more}
use Rattle.machine.proofs.staying.lost_weight.Goals as goal

pub loop-at-preserved : goal.loop-at-preserved
loop-at-preserved c =
    let cell = c.index-cells-at.result in
    let e = lost_weight_more c.args.cells.now c.args.values.now c.loop-at.at cell c.loop-at-test.true c.index-cells-at.is in
    let more = subst (λ value. c.in_ok-total.total ≡ c.loop-at.total + lost_there cell value) c.value_at.ensures c.in_ok-total.ensures in
    omega (arith, e, more, c.loop-at.invariant)
