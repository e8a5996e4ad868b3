use Rattle.std.proofs.Common.{◌≡◌, ◌++◌, drop}
use Rattle.std.specs.List.{filter_map}
use Rattle.mig_plan.specs.Finish as spec
use Rattle.mig_plan.proofs.finishing.new_tables.Given as goal

abbrev pub invariant-loop-table : goal.invariant-loop-table
invariant-loop-table l = l.new ++ filter_map spec.new_table (drop l.table-index l.tables) ≡ filter_map spec.new_table l.tables
