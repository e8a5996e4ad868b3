use Rattle.std.proofs.Common.{◌≡◌, ◌++◌, drop, map}
use Rattle.machine.specs.Migrate.{table_without_loss}
use Rattle.machine.proofs.staying.tables_without_loss.Given as goal

abbrev pub invariant-loop-table : goal.invariant-loop-table
invariant-loop-table l = l.all ++ map table_without_loss (drop l.table-index l.tables) ≡ map table_without_loss l.tables
