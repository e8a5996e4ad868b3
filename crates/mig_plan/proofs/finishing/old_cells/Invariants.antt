use Rattle.std.proofs.Common.{◌≡◌, ◌++◌, drop}
use Rattle.mig_plan.specs.Finish.{old_cells}
use Rattle.mig_plan.proofs.finishing.old_cells.Given as goal

abbrev pub invariant-loop-column : goal.invariant-loop-column
invariant-loop-column l = l.cells ++ old_cells l.at (drop l.column-index l.columns) ≡ old_cells 0 l.columns
