use Rattle.roll_core.proofs.Words.{put_all, ◌≡◌, ◌≤◌, length}
use Rattle.roll_core.proofs.changing.put_all.Given as goal

-- there is room for the changes that are left, and they lead to the same rows
abbrev pub invariant-loop-change : goal.invariant-loop-change
invariant-loop-change l =
    (goal.iterator-loop-change).can_next l.change-iterator × (goal.iterator-loop-change).is_finite l.change-iterator
    × (l.change-iterator.rest.len ≡ length l.change-iterator.rest.items)
    × (length l.change-iterator.rest.items ≤ l.rows.spare) × (put_all l.change-iterator.rest.items l.rows.rows ≡ put_all l.fn.changes l.fn.rows.rows)
