use Rattle.std.proofs.Common.{ap, arith, length}
use Rattle.row_index.specs.Changes.{put_all}
use Rattle.row_index.proofs.Looping.{step_end, step_room}
use Rattle.row_index.proofs.changes.put_all.Goals as goal

pub put_change-requires : goal.put_change-requires
put_change-requires c =
    let items = ap length c.in-Some.ensures.steps.0 in
    let room = c.loop-change.invariant.3 in
    omega (arith, items, room)

pub loop-change-preserved : goal.loop-change-preserved
loop-change-preserved c =
    let wanted = put_all c.args.changes c.args.index.now.entries in
    let step =
    step_room c.in-Some.change c.next.new.self.rest.items c.loop-change.change-iterator.rest.items c.loop-change.index.entries c.put_change.new.index.entries c.loop-change.index.spare c.put_change.new.index.spare wanted c.in-Some.ensures.steps.0 c.put_change.ensures.entries c.loop-change.invariant.3 c.put_change.ensures.room c.loop-change.invariant.4 in
    let left = c.in-Some.ensures.steps.1 in
    let was = c.loop-change.invariant.2 in
    let items = ap length c.in-Some.ensures.steps.0 in
    (tt, tt, omega (arith, left, was, items), step.0, step.1)

pub returns : goal.returns
returns c =
    step_end c.loop-change.change-iterator.rest.items c.loop-change.index.entries
    (put_all c.args.changes c.args.index.now.entries) c.loop-change.change-iterator.rest.len c.in-None.ensures.steps.0 c.loop-change.invariant.2 c.loop-change.invariant.4
