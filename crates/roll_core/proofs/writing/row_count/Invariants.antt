use Rattle.roll_core.proofs.Words.{◌≡◌, ◌-◌, ◌^◌, min, take}
use Rattle.roll_core.specs.Seen.{row_count}
use Rattle.roll_core.proofs.writing.row_count.Given as goal

abbrev pub invariant-loop-table : goal.invariant-loop-table
invariant-loop-table l = l.count ≡ min (row_count (take l.table-index l.tables)) (2 ^ 64 - 1)
