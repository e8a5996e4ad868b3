use Rattle.std.proofs.Common.{◌≡◌, ◌++◌, ◌==◌, drop, map, if◌then◌else◌}
use Rattle.machine.proofs.rows.with_rows.Given as goal

abbrev pub invariant-loop-table : goal.invariant-loop-table
invariant-loop-table l =
    l.tables ++ map (λ table. if table.0 == l.number then (l.number, l.rows) else table) (drop l.table-index l.table-items)
    ≡ map (λ table. if table.0 == l.number then (l.number, l.rows) else table) l.s.tables
