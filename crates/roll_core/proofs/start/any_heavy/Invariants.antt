use Rattle.roll_core.proofs.Words.{◌≡◌, drop, map, list_any, has_heavy, seen, table_meant}
use Rattle.roll_core.proofs.start.any_heavy.Given as goal

abbrev pub invariant-loop-table : goal.invariant-loop-table
invariant-loop-table l = list_any (has_heavy l.fates) (map table_meant (map seen (drop l.table-index l.tables))) ≡ list_any (has_heavy l.fates) (map table_meant (map seen l.tables))
