use Rattle.std.proofs.Common.{◌≡◌, ◌≤◌, ◌+◌, drop}
use Rattle.mig_plan.specs.Draft.{new_count}
use Rattle.mig_plan.proofs.drafts.new_count.Given as goal

abbrev pub invariant-loop-column : goal.invariant-loop-column
invariant-loop-column l = (l.count ≤ l.column-index) × (l.count + new_count (drop l.column-index l.columns) ≡ new_count l.columns)
