use Rattle.std.proofs.Common.{◌≡◌, drop, map}
use Rattle.std.specs.Option.{option_copied}
use Rattle.mig_plan.specs.Places as spec
use Rattle.mig_plan.proofs.expressions.bad_columns.Given as goal

-- the first place so far, or the first one of those that are left, is that of all of them
abbrev pub invariant-loop-column : goal.invariant-loop-column
invariant-loop-column l = spec.earlier l.first (spec.least (map (spec.bad_column (option_copied l.old) (option_copied l.new)) (drop l.column-index l.columns))) ≡ spec.least (map (spec.bad_column (option_copied l.old) (option_copied l.new)) l.columns)
