use Rattle.roll_core.proofs.Words.{lost_by, ◌≡◌, ◌++◌, drop, map, filter_map, seen}
use Rattle.roll_core.proofs.leaving.lost_among.Given as goal

abbrev pub invariant-loop-table : goal.invariant-loop-table
invariant-loop-table l = l.all ++ filter_map (lost_by l.gone l.fates) (map seen (drop l.table-index l.tables)) ≡ filter_map (lost_by l.gone l.fates) (map seen l.tables)
