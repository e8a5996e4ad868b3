use Rattle.std.proofs.Common.{◌≡◌, ◌≤◌, ◌-◌, length, take}
use Rattle.std.specs.Io.KnownBytes.{Appends}
use Rattle.pg_io.proofs.whole.write_whole.Given as goal

abbrev pub invariant-loop-written : goal.invariant-loop-written
invariant-loop-written g l = record {
  within : l.written ≤ length l.bytes;
  held : Appends (g.K.Sink.held l.fn.out) (g.K.Sink.held l.out) (take l.written l.bytes);
  same : g.K.Sink.faults l.out ≡ g.K.Sink.faults l.fn.out;
}

abbrev pub decreases-loop-written : goal.decreases-loop-written
decreases-loop-written g l = length l.bytes - l.written
