use Rattle.std.proofs.Common.{◌≡◌, ◌++◌, drop, map}
use Rattle.row_index.specs.Changes.{index_change, index_changes}
use Rattle.row_index.proofs.changes.index_changes.Given as goal

abbrev pub invariant-loop-change : goal.invariant-loop-change
invariant-loop-change l = l.all ++ map (index_change l.unique l.side) (drop l.change-index l.changes) ≡ index_changes l.side l.changes l.unique
