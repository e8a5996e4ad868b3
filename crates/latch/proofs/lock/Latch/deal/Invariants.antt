use Rattle.std.proofs.Common.{◌≡◌, ◌+◌, ◌-◌, ◌<◌, suc, length, vec_capacity}
use Rattle.latch.specs.Lists.{upward}
use Rattle.latch.specs.Seats.{AreNew}
use Rattle.latch.proofs.Deals.{with_places}
use Rattle.latch.proofs.lock.Latch.deal.Given as goal

abbrev pub invariant-loop : goal.invariant-loop
invariant-loop g l = record {
  same : l.seat.table_id ≡ l.fn.self.table;
  last : l.end + 1 ≡ l.fn.seats;
  long : length l.all.items ≡ l.counter;
  room : l.end < vec_capacity l.all;
  mine : l.seat.me ≡ with_places g.T.Counted.base l.fn.self (g.T.Counted.list l.fn.self.first) (upward l.counter (suc (l.end - l.counter)));
  dealt : AreNew g.T.Counted.base l.fn.self (g.T.Counted.list l.fn.self.first) l.all.items;
}
