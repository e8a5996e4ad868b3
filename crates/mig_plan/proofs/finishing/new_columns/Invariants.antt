use Rattle.std.proofs.Common.{◌≡◌, ◌++◌, drop}
use Rattle.std.specs.List.{filter_map}
use Rattle.mig_plan.specs.Finish.{new_side}
use Rattle.mig_plan.proofs.finishing.new_columns.Given as goal

abbrev pub invariant-loop-column : goal.invariant-loop-column
invariant-loop-column l = l.new ++ filter_map new_side (drop l.column-index l.columns) ≡ filter_map new_side l.columns
