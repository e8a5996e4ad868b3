use Rattle.std.proofs.Common.{◌≡◌, ◌≤◌, length}
use Rattle.row_index.specs.Changes.{put_all}
use Rattle.row_index.proofs.changes.put_all.Given as goal

-- there is room for the changes that are left, and they lead to the same entries
abbrev pub invariant-loop-change : goal.invariant-loop-change
invariant-loop-change l =
    (goal.iterator-loop-change).can_next l.change-iterator × (goal.iterator-loop-change).is_finite l.change-iterator
    × (l.change-iterator.rest.len ≡ length l.change-iterator.rest.items)
    × (length l.change-iterator.rest.items ≤ l.index.spare) × (put_all l.change-iterator.rest.items l.index.entries ≡ put_all l.fn.changes l.fn.index.entries)
