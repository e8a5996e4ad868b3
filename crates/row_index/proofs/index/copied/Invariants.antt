use Rattle.std.proofs.Common.{◌≡◌, ◌++◌, drop}
use Rattle.row_index.proofs.index.copied.Given as goal

abbrev pub invariant-loop-unique : goal.invariant-loop-unique
invariant-loop-unique l = l.copy ++ drop l.unique-index l.uniques ≡ l.uniques
