use Rattle.std.proofs.Common.{◌≡◌, ◌++◌, drop, map}
use Rattle.std.specs.List.{enumerate_from}
use Rattle.phase_steps.specs.Rows as spec
use Rattle.phase_steps.proofs.leaving.left_values.Given as goal

-- the values so far, and then those of the columns that are left, are all of them
abbrev pub invariant-loop-at : goal.invariant-loop-at
invariant-loop-at l = l.all ++ map (spec.left_value l.values l.held) (enumerate_from l.at (drop l.at l.cells)) ≡ spec.left_values l.cells l.values l.held
