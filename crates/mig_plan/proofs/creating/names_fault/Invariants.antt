use Rattle.std.proofs.Common.{◌≡◌, drop}
use Rattle.mig_plan.specs.Tables as spec
use Rattle.mig_plan.proofs.creating.names_fault.Given as goal

-- the first fault of the columns that are left is that of all of them
abbrev pub invariant-loop-column : goal.invariant-loop-column
invariant-loop-column l = spec.names_fault l.old l.title l.at (drop l.column-index l.columns) l.table ≡ spec.names_fault l.old l.title l.at l.columns l.initial.table
