use Rattle.std.proofs.Common.{◌≡◌, ◌++◌, drop}
use Rattle.std.specs.List.{filter_map}
use Rattle.machine.specs.Migrate.{lost_in_table}
use Rattle.machine.proofs.staying.columns_lost.Given as goal

abbrev pub invariant-loop-table : goal.invariant-loop-table
invariant-loop-table l = l.all ++ filter_map (lost_in_table l.gone l.fates) (drop l.table-index l.tables) ≡ filter_map (lost_in_table l.gone l.fates) l.tables
