use Rattle.roll_core.proofs.Words.{arith, length, ap, put_all}
use Rattle.roll_core.proofs.Rows.{step_end, step_room}
use Rattle.roll_core.proofs.changing.put_all.Goals as goal

pub put_stored-requires : goal.put_stored-requires
put_stored-requires c =
    let items = ap length c.in-Some.ensures.steps.0 in
    let room = c.loop-change.invariant.3 in
    omega (arith, items, room)

pub loop-change-preserved : goal.loop-change-preserved
loop-change-preserved c =
    let step = step_room c.in-Some.change c.next.new.self.rest.items c.loop-change.change-iterator.rest.items c.loop-change.rows.rows c.put_stored.new.rows.rows c.loop-change.rows.spare c.put_stored.new.rows.spare (put_all c.args.changes c.args.rows.now.rows) c.in-Some.ensures.steps.0 c.put_stored.ensures.rows c.loop-change.invariant.3 c.put_stored.ensures.room c.loop-change.invariant.4 in
    let left = c.in-Some.ensures.steps.1 in
    let was = c.loop-change.invariant.2 in
    let items = ap length c.in-Some.ensures.steps.0 in
    (tt, tt, omega (arith, left, was, items), step.0, step.1)

pub returns : goal.returns
returns c = step_end c.loop-change.change-iterator.rest.items c.loop-change.rows.rows (put_all c.args.changes c.args.rows.now.rows) c.loop-change.change-iterator.rest.len c.in-None.ensures.steps.0 c.loop-change.invariant.2 c.loop-change.invariant.4
