use Rattle.std.proofs.Common.{◌≡◌, drop}
use Rattle.mig_plan.specs.Tables as spec
use Rattle.mig_plan.proofs.creating.with_columns.Given as goal

abbrev pub invariant-loop-column : goal.invariant-loop-column
invariant-loop-column l = spec.with_columns l.title l.at (drop l.column-index l.columns) l.table ≡ spec.with_columns l.title l.at l.columns l.initial.table
