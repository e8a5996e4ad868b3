use Rattle.std.proofs.Common.{◌≡◌, drop}
use Rattle.row_rules.specs.Changes.{after_changes}
use Rattle.row_rules.proofs.together.after_changes.Given as goal

abbrev pub invariant-loop-change : goal.invariant-loop-change
invariant-loop-change l = after_changes (drop l.change-index l.changes) l.all ≡ after_changes l.changes l.rows
