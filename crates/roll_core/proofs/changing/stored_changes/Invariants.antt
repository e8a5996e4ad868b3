use Rattle.roll_core.proofs.Words.{stored_change, ◌≡◌, ◌++◌, drop, map}
use Rattle.roll_core.proofs.changing.stored_changes.Given as goal

abbrev pub invariant-loop-change : goal.invariant-loop-change
invariant-loop-change l = l.all ++ map (stored_change l.table.form l.table.rows.rows) (drop l.change-index l.changes) ≡ map (stored_change l.table.form l.table.rows.rows) l.changes
