use Rattle.std.proofs.Common.{◌≡◌, ◌-◌}
use Rattle.journal_rec.specs.Reading.{times, row_at}
use Rattle.journal_rec.proofs.Loop.{behind}
use Rattle.journal_rec.proofs.reading.list_of.Given as goal

abbrev pub invariant-loop : goal.invariant-loop
invariant-loop l = behind l.rows (times row_at (l.count - l.counter) l.rest) ≡ times row_at l.count l.fn.bytes
