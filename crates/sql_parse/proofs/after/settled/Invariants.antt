use Rattle.std.proofs.Common.{◌≡◌, length}
use Rattle.sql_parse.specs.Machine as spec
use Rattle.sql_parse.proofs.after.settled.Given as goal

abbrev pub invariant-loop-alloc : goal.invariant-loop-alloc
invariant-loop-alloc l = spec.settled 64 l.limit l.stack l.tree l.level ≡ spec.settled 64 l.fn.limit l.fn.stack l.fn.tree l.fn.level

abbrev pub decreases-loop-alloc : goal.decreases-loop-alloc
decreases-loop-alloc l = length l.stack
