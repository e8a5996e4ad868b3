use Rattle.std.proofs.Common.{vec_len}
use Rattle.latch.proofs.Gathers.{Gathers}
use Rattle.latch.proofs.lock.Latch.close_all.Given as goal

abbrev pub invariant-loop-seat : goal.invariant-loop-seat
invariant-loop-seat g l = Gathers g.T.Counted.base g.T.Counted.actor l.fn.self l.fn.seats.items l.seats.items l.kept

abbrev pub decreases-loop-seat : goal.decreases-loop-seat
decreases-loop-seat g l = vec_len l.seats
