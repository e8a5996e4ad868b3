use Rattle.std.proofs.Common.{◌≡◌, ◌++◌, drop, map}
use Rattle.row_rules.specs.Steps.{begun_row}
use Rattle.machine.proofs.start.begun_all.Given as goal

abbrev pub invariant-loop-row : goal.invariant-loop-row
invariant-loop-row l = l.begun ++ map (begun_row l.lens) (drop l.row-index l.rows) ≡ map (begun_row l.lens) l.rows
