use Rattle.std.proofs.Common.{◌≡◌, drop}
use Rattle.constraint.specs.Valid.{first_some, row_broken}
use Rattle.constraint.proofs.validation.first_broken.Given as goal

abbrev pub invariant-loop-row : goal.invariant-loop-row
invariant-loop-row l = first_some (row_broken l.table l.shape) (drop l.row-index l.rows) ≡ first_some (row_broken l.table l.shape) l.rows
