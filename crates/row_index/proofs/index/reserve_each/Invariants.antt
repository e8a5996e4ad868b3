use Rattle.std.proofs.Common.{◌≡◌, ◌≤◌, take}
use Rattle.std.specs.List.{AllByRecursion}
use Rattle.row_index.specs.Indexes.{entries_of}
use Rattle.row_index.proofs.index.reserve_each.Given as goal

abbrev pub invariant-loop-index : goal.invariant-loop-index
invariant-loop-index l = (entries_of l.indexes ≡ entries_of l.fn.indexes) × AllByRecursion (λ index. l.n ≤ index.spare) (take l.index-index l.indexes)
