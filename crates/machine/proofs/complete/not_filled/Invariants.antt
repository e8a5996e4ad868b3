use Rattle.std.proofs.Common.{◌≡◌, drop, map}
use Rattle.machine.specs.Migrate.{not_filled, numbers_of}
use Rattle.machine.proofs.complete.not_filled.Given as goal

abbrev pub invariant-loop-table : goal.invariant-loop-table
invariant-loop-table l = not_filled l.s (map (λ table. table.0) (drop l.table-index l.table-items)) ≡ not_filled l.s (numbers_of l.s)
