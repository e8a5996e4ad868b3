use Rattle.std.proofs.Common.{◌≡◌, ◌++◌, drop}
use Rattle.row_rules.specs.Rows.{rows_at}
use Rattle.machine.proofs.fill.rows_at.Given as goal

abbrev pub invariant-loop-row : goal.invariant-loop-row
invariant-loop-row l = l.all ++ rows_at l.keys (drop l.row-index l.rows) ≡ rows_at l.keys l.rows
