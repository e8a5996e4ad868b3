use Rattle.std.proofs.Common.{◌≡◌, ◌++◌, drop, length, take}
use Rattle.row_index.specs.Changes.{HaveRoom, put_each}
use Rattle.row_index.specs.Indexes.{entries_of}
use Rattle.row_index.proofs.index.put_each.Given as goal

-- there is room for the changes that are left, and they lead to the same entries
abbrev pub invariant-loop-changes : goal.invariant-loop-changes
invariant-loop-changes l =
    (goal.iterator-loop-changes).can_next l.changes-iterator × (goal.iterator-loop-changes).is_finite l.changes-iterator
    × (l.changes-iterator.rest.len ≡ length l.changes-iterator.rest.items)
    × HaveRoom l.changes-iterator.rest.items (drop l.at l.indexes)
    × (entries_of (take l.at l.indexes) ++ put_each l.changes-iterator.rest.items (entries_of (drop l.at l.indexes)) ≡ put_each l.fn.prepared (entries_of l.fn.indexes))
