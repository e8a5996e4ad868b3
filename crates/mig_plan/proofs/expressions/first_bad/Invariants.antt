use Rattle.std.proofs.Common.{◌≡◌, drop, map}
use Rattle.mig_plan.specs.Places as spec
use Rattle.mig_plan.proofs.expressions.first_bad.Given as goal

-- the first place so far, or the first one of those that are left, is that of all of them
abbrev pub invariant-loop-table : goal.invariant-loop-table
invariant-loop-table l = spec.earlier l.first (spec.least (map (spec.bad_table l.old) (drop l.table-index l.tables))) ≡ spec.least (map (spec.bad_table l.old) l.tables)
