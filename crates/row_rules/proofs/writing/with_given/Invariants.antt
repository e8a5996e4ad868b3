use Rattle.std.proofs.Common.{◌≡◌, ◌++◌, drop, map}
use Rattle.std.specs.List.{enumerate_from}
use Rattle.row_rules.specs.Changes.{value_given, with_given}
use Rattle.row_rules.proofs.writing.with_given.Given as goal

abbrev pub invariant-loop-at : goal.invariant-loop-at
invariant-loop-at l = l.all ++ map (value_given l.given) (enumerate_from l.at (drop l.at l.row)) ≡ with_given l.given l.row
