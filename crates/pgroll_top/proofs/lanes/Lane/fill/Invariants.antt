use Rattle.std.proofs.Common.{List, ◌+◌, ◌≤◌}
use Rattle.pg_io.specs.Outside.{known}
use Rattle.machine.specs.declared.events.Entry.{Entry}
use Rattle.machine.specs.declared.events.Event.TheVariants as event
use Rattle.machine.specs.Follows.{goes_on_filling}
use Rattle.machine.specs.Laws.{unfilled_rows}
use Rattle.machine.specs.Standing.{IsState}
use Rattle.roll_core.specs.Store.{meaning}
use Rattle.pgroll_top.proofs.Repeating.{Repeats}
use Rattle.pgroll_top.proofs.lanes.Lane.fill.Given as goal

abbrev pub invariant-batches : goal.invariant-batches
invariant-batches g l = record {
  stands : IsState (meaning l.self.core);
  room : l.self.number + unfilled_rows (meaning l.self.core) ≤ l.fn.self.number + 262144;
  so_far : (entries : List Entry) × Repeats (event.Fill 1000) goes_on_filling l.fn.self l.self (known g.K.Sink.held g.K.Sink.faults l.fn.out l.out) entries;
}

abbrev pub decreases-batches : goal.decreases-batches
decreases-batches g l = unfilled_rows (meaning l.self.core)
