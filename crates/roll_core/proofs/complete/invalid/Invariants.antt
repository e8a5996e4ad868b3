use Rattle.roll_core.proofs.Words.{invalid_in, ◌≡◌, drop, map, first_some, seen}
use Rattle.roll_core.proofs.complete.invalid.Given as goal

abbrev pub invariant-loop-table : goal.invariant-loop-table
invariant-loop-table l = first_some (invalid_in l.frame) (map seen (drop l.table-index l.tables)) ≡ first_some (invalid_in l.frame) (map seen l.tables)
