use Rattle.std.proofs.Common.{◌≡◌, drop}
use Rattle.constraint.specs.Valid.{first_some, unique_broken}
use Rattle.constraint.proofs.validation.uniques_broken.Given as goal

abbrev pub invariant-loop-unique : goal.invariant-loop-unique
invariant-loop-unique l = first_some (unique_broken l.rows) (drop l.unique-index l.uniques) ≡ first_some (unique_broken l.rows) l.uniques
