use Rattle.std.proofs.Common.{◌≡◌, drop, map}
use Rattle.machine.specs.Migrate.{invalid, numbers_of}
use Rattle.machine.proofs.complete.invalid.Given as goal

abbrev pub invariant-loop-table : goal.invariant-loop-table
invariant-loop-table l = invalid l.s (map (λ table. table.0) (drop l.table-index l.table-items)) ≡ invalid l.s (numbers_of l.s)
