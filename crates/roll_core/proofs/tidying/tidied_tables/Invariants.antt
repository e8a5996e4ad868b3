use Rattle.roll_core.proofs.Words.{tidied_table, ◌≡◌, ◌++◌, drop, map, seen}
use Rattle.roll_core.proofs.tidying.tidied_tables.Given as goal

abbrev pub invariant-loop-table : goal.invariant-loop-table
invariant-loop-table l = map seen l.tidied.items ++ map tidied_table (map seen (drop l.table-index l.tables)) ≡ map tidied_table (map seen l.tables)
