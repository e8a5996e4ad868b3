use Rattle.std.proofs.Common.{◌≡◌, take}
use Rattle.row_fit.proofs.equal.are_same.Given as goal

-- the values so far are the same
abbrev pub invariant-loop-at : goal.invariant-loop-at
invariant-loop-at l = take l.at l.one ≡ take l.at l.other
