use Rattle.std.proofs.Common.{◌≡◌, ◌-◌, ◌^◌, length, min, sum_by, take}
use Rattle.machine.proofs.rows.row_count.Given as goal

abbrev pub invariant-loop-table : goal.invariant-loop-table
invariant-loop-table l = l.count ≡ min (sum_by (λ table. length table.1) (take l.table-index l.table-items)) (2 ^ 64 - 1)
