use Rattle.std.proofs.Common.{◌≡◌, ◌≤◌, ◌+◌, drop}
use Rattle.mig_plan.specs.Tables.{table_count}
use Rattle.mig_plan.proofs.creating.table_count.Given as goal

abbrev pub invariant-loop-table : goal.invariant-loop-table
invariant-loop-table l = (l.count ≤ l.table-index) × (l.count + table_count (drop l.table-index l.tables) ≡ table_count l.tables)
