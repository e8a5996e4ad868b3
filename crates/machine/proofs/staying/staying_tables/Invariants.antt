use Rattle.std.proofs.Common.{◌≡◌, ◌++◌, drop}
use Rattle.machine.specs.Migrate.{staying_tables}
use Rattle.machine.proofs.staying.staying_tables.Given as goal

abbrev pub invariant-loop-table : goal.invariant-loop-table
invariant-loop-table l =
    l.staying ++ staying_tables l.gone l.schema l.fates (drop l.table-index l.tables) ≡ staying_tables l.gone l.schema l.fates l.tables
