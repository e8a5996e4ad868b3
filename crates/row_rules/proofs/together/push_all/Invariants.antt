use Rattle.std.proofs.Common.{◌≡◌, ◌++◌, take}
use Rattle.row_rules.proofs.together.push_all.Given as goal

abbrev pub invariant-loop-row : goal.invariant-loop-row
invariant-loop-row l = l.out ≡ l.fn.out ++ take l.row-index l.rows
