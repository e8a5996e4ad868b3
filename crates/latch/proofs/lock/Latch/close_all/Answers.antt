use Rattle.std.proofs.Common.{arith}
use Rattle.std.proofs.lemmas.Grind.{common_steps}
use Rattle.latch.proofs.Gathers.{gathers_last, gathers_more, gathers_all, gathers_next}
use Rattle.latch.proofs.lock.Latch.close_all.Goals as goal

pub loop-seat-init : goal.loop-seat-init
loop-seat-init g c = gathers_last g.T.Counted.base g.T.Counted.actor c.args.self c.args.seats.items _ c.in-Some.kept c.in-Some.ensures.items c.requires.free

pub join-requires-clause-own : goal.join-requires-clause-own
join-requires-clause-own g c = (c.loop-seat.invariant.own, (gathers_next g.T.Counted.base g.T.Counted.actor c.args.self c.args.seats.items _ _ _ c.in-Some-pop.seat c.loop-seat.invariant c.in-Some-pop.ensures.items c.requires.free).0)

pub join-requires-clause-free : goal.join-requires-clause-free
join-requires-clause-free g c = (c.loop-seat.invariant.free, (gathers_next g.T.Counted.base g.T.Counted.actor c.args.self c.args.seats.items _ _ _ c.in-Some-pop.seat c.loop-seat.invariant c.in-Some-pop.ensures.items c.requires.free).1)

pub loop-seat-preserved : goal.loop-seat-preserved
loop-seat-preserved g c = let j = c.join.ensures in
    gathers_more g.T.Counted.base g.T.Counted.actor c.args.self c.args.seats.items _ _ _ _ c.in-Some-pop.seat c.loop-seat.invariant c.in-Some-pop.ensures.items j.own j.free j.places j.kept_begins j.seat_begins

pub returns-clause-begins : goal.returns-clause-begins
returns-clause-begins g c =
    gathers_all g.T.Counted.base g.T.Counted.actor c.args.self c.args.seats.items _ c.loop-seat.kept _ c.loop-seat.invariant (let e = c.in_default-pop.ensures.variant in grind (arith, common_steps)) c.close.ensures.begins
