use Rattle.std.proofs.Common.{◌≡◌, drop}
use Rattle.catalog.specs.Versions.{table_of}
use Rattle.catalog.proofs.finding.table_of.Given as goal

abbrev pub invariant-loop-named : goal.invariant-loop-named
invariant-loop-named l = table_of l.known (drop l.named-index l.path) l.name ≡ table_of l.known l.path l.name
