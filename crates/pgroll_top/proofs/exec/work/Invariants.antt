use Rattle.std.proofs.Common.{List}
use Rattle.pg_io.specs.Outside.{known}
use Rattle.machine.specs.declared.events.Entry.{Entry}
use Rattle.pgroll_top.proofs.Working.{Worked}
use Rattle.pgroll_top.proofs.exec.work.Given as goal

abbrev pub invariant-loop-line : goal.invariant-loop-line
invariant-loop-line g l =
    (history : List Entry) × Worked l.lines l.line-index l.lane (known g.K.Sink.held g.K.Sink.faults l.fn.out l.out) history
