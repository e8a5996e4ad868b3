use Rattle.std.proofs.Common.{◌≡◌, ◌==◌, [], drop, find}
use Rattle.std.specs.Option.{option_map_or}
use Rattle.machine.proofs.tables.rows_of.Given as goal

abbrev pub invariant-loop-table : goal.invariant-loop-table
invariant-loop-table l =
    option_map_or (λ table. table.1) (find (λ table. table.0 == l.number) (drop l.table-index l.table-items)) []
    ≡ option_map_or (λ table. table.1) (find (λ table. table.0 == l.number) l.s.tables) []
