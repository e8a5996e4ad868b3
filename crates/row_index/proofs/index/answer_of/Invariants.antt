use Rattle.std.proofs.Common.{◌≡◌, drop}
use Rattle.row_index.specs.Indexes.{entries_for, entries_of}
use Rattle.row_index.proofs.index.answer_of.Given as goal

-- none of the constraints before is of these columns
abbrev pub invariant-loop-at : goal.invariant-loop-at
invariant-loop-at l =
    entries_for l.unique (drop l.at l.uniques) (entries_of (drop l.at l.indexes)) ≡ entries_for l.unique l.uniques (entries_of l.indexes)
