use Rattle.std.proofs.Common.{◌≡◌, ◌%◌, ◌^◌}
use Rattle.latch.specs.Views.{drawn}
use Rattle.latch.proofs.lock.Latch.enter.Given as goal

abbrev pub invariant-loop : goal.invariant-loop
invariant-loop g l = (l.seat.table_id ≡ l.fn.seat.table_id) × (l.seat.id ≡ l.fn.seat.id) × (l.seat.me.1 ≡ l.fn.seat.me.1) × (l.seat.me.0 ≡ drawn l.fn.seat.me.0 l.seat.me.0.number) × (l.number ≡ l.seat.me.0.number % 2 ^ 64)
