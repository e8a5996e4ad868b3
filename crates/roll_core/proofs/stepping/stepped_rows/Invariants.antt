use Rattle.roll_core.proofs.Words.{stepped_row, ◌≡◌, map, take}
use Rattle.roll_core.proofs.Words.finite
use Rattle.roll_core.proofs.stepping.stepped_rows.Given as goal

-- the rows so far
abbrev pub invariant-loop-at : goal.invariant-loop-at
invariant-loop-at l = finite.entries l.stepped.rows ≡ map (stepped_row l.form) (take l.at (finite.entries l.rows.rows))
