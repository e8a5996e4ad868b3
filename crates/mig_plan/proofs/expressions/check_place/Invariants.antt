use Rattle.std.proofs.Common.{◌≡◌, drop, map, max}
use Rattle.std.specs.Prelude.{is_some}
use Rattle.mig_plan.specs.Places as spec
use Rattle.mig_plan.proofs.expressions.check_place.Given as goal

abbrev pub invariant-loop-column : goal.invariant-loop-column
invariant-loop-column l = max l.place (spec.greatest (map (spec.touched_at l.check.check.expr (is_some l.check.made)) (drop l.column-index l.columns))) ≡ spec.check_place l.columns l.check
