use Rattle.std.proofs.Common.{◌≡◌, ◌≤◌, ◌+◌, drop}
use Rattle.mig_plan.specs.Tables.{key_count}
use Rattle.mig_plan.proofs.creating.key_count.Given as goal

abbrev pub invariant-loop-column : goal.invariant-loop-column
invariant-loop-column l = (l.count ≤ l.column-index) × (l.count + key_count (drop l.column-index l.columns) ≡ key_count l.columns)
