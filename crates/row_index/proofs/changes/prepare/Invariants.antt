use Rattle.std.proofs.Common.{◌≡◌, ◌++◌, drop}
use Rattle.row_index.specs.Changes.{prepared}
use Rattle.row_index.proofs.changes.prepare.Given as goal

abbrev pub invariant-loop-unique : goal.invariant-loop-unique
invariant-loop-unique l = l.all ++ prepared (drop l.unique-index l.uniques) l.side l.changes ≡ prepared l.uniques l.side l.changes
