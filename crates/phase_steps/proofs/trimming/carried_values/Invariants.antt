use Rattle.std.proofs.Common.{◌≡◌, ◌++◌, drop}
use Rattle.phase_steps.specs.Rows as spec
use Rattle.phase_steps.proofs.trimming.carried_values.Given as goal

-- the values so far, and then those of the columns that are left, are all of them
abbrev pub invariant-loop-at : goal.invariant-loop-at
invariant-loop-at l = l.values ++ spec.carried_values (drop l.at l.cells) (drop l.at l.row) ≡ spec.carried_values l.cells l.row
