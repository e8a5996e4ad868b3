use Rattle.std.proofs.Common.{◌≡◌, drop, map}
use Rattle.std.specs.Option.{option_copied}
use Rattle.mig_plan.specs.Places as spec
use Rattle.mig_plan.proofs.expressions.bad_checks.Given as goal

-- the first place so far, or the first one of those that are left, is that of all of them
abbrev pub invariant-loop-check : goal.invariant-loop-check
invariant-loop-check l = spec.earlier l.first (spec.least (map (spec.bad_check (option_copied l.new) l.columns) (drop l.check-index l.checks))) ≡ spec.least (map (spec.bad_check (option_copied l.new) l.columns) l.checks)
