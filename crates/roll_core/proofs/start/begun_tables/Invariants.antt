use Rattle.roll_core.proofs.Words.{begun_table, ◌≡◌, ◌++◌, drop, map, seen}
use Rattle.roll_core.proofs.start.begun_tables.Given as goal

abbrev pub invariant-loop-table : goal.invariant-loop-table
invariant-loop-table l = map seen l.begun.items ++ map (begun_table l.frame l.plan) (map seen (drop l.table-index l.tables)) ≡ map (begun_table l.frame l.plan) (map seen l.tables)
