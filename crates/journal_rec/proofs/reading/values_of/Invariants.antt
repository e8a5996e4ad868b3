use Rattle.std.proofs.Common.{◌≡◌, ◌-◌}
use Rattle.journal_rec.specs.Reading.{times, value_at}
use Rattle.journal_rec.proofs.Loop.{behind}
use Rattle.journal_rec.proofs.reading.values_of.Given as goal

abbrev pub invariant-loop : goal.invariant-loop
invariant-loop l = behind l.values (times value_at (l.count - l.counter) l.rest) ≡ times value_at l.count l.fn.bytes
