use Rattle.std.proofs.Common.{◌≡◌, ◌++◌, drop}
use Rattle.mig_plan.specs.Finish.{new_cells}
use Rattle.mig_plan.proofs.finishing.new_cells.Given as goal

abbrev pub invariant-loop-column : goal.invariant-loop-column
invariant-loop-column l = l.cells ++ new_cells l.at (drop l.column-index l.columns) ≡ new_cells 0 l.columns
