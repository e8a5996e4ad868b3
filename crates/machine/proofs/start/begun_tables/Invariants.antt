use Rattle.std.proofs.Common.{◌≡◌, ◌++◌, drop, map}
use Rattle.machine.specs.Migrate.{begun_table}
use Rattle.machine.proofs.start.begun_tables.Given as goal

abbrev pub invariant-loop-table : goal.invariant-loop-table
invariant-loop-table l = l.begun ++ map (begun_table l.fates) (drop l.table-index l.tables) ≡ map (begun_table l.fates) l.tables
