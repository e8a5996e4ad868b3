use Rattle.std.proofs.Common.{List, ◌+◌, ◌≤◌}
use Rattle.pg_io.specs.Outside.{known}
use Rattle.machine.specs.declared.events.Entry.{Entry}
use Rattle.machine.specs.declared.events.Event.TheVariants as event
use Rattle.machine.specs.Follows.{goes_on_rolling_back}
use Rattle.machine.specs.Laws.{steps_back_due}
use Rattle.roll_core.specs.Store.{meaning}
use Rattle.pgroll_top.proofs.Repeating.{Repeats}
use Rattle.pgroll_top.proofs.lanes.Lane.roll_back.Given as goal

abbrev pub invariant-steps : goal.invariant-steps
invariant-steps g l = record {
  room : l.self.number + steps_back_due (meaning l.self.core) ≤ l.fn.self.number + 2;
  so_far : (entries : List Entry) × Repeats event.Rollback goes_on_rolling_back l.fn.self l.self (known g.K.Sink.held g.K.Sink.faults l.fn.out l.out) entries;
}

abbrev pub decreases-steps : goal.decreases-steps
decreases-steps g l = steps_back_due (meaning l.self.core)
