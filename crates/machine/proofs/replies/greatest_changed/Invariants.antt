use Rattle.std.proofs.Common.{◌≡◌, ◌≤◌, drop, length}
use Rattle.row_rules.specs.Changes.{keys_changed}
use Rattle.row_rules.specs.Rows.{greatest}
use Rattle.machine.proofs.replies.greatest_changed.Given as goal

abbrev pub decreases-loop-at : goal.decreases-loop-at
decreases-loop-at l = l.at

abbrev pub invariant-loop-at : goal.invariant-loop-at
invariant-loop-at l = (l.at ≤ length l.changes) × (l.greatest ≡ greatest (keys_changed (drop l.at l.changes)))
