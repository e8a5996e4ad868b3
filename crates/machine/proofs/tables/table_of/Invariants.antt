use Rattle.std.proofs.Common.{◌≡◌, drop}
use Rattle.machine.specs.State.{table_of}
use Rattle.machine.proofs.tables.table_of.Given as goal

abbrev pub invariant-loop-named : goal.invariant-loop-named
invariant-loop-named l = table_of l.s (drop l.named-index l.path) l.name ≡ table_of l.s l.path l.name
