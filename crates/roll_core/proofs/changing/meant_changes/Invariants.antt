use Rattle.roll_core.proofs.Words.{◌≡◌, ◌++◌, drop, meant_changes}
use Rattle.roll_core.proofs.changing.meant_changes.Given as goal

abbrev pub invariant-loop-change : goal.invariant-loop-change
invariant-loop-change l = l.all ++ meant_changes l.form (drop l.change-index l.changes) ≡ meant_changes l.form l.changes
