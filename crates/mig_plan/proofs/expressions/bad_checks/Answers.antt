use Rattle.std.proofs.Common.{◌∙◌, ◌+◌, ap, drop, map}
use Rattle.std.specs.Option.{option_copied}
use Rattle.mig_plan.specs.Places as spec
use Rattle.mig_plan.proofs.Earlier.{least_step}
use Rattle.mig_plan.proofs.expressions.bad_checks.Goals as goal

pub loop-check-preserved : goal.loop-check-preserved
loop-check-preserved c =
    let rest = spec.least (map (spec.bad_check (option_copied c.args.new) c.args.columns.now) (drop (c.loop-check.check-index + 1) c.args.checks.now)) in
    ap (λ place. spec.earlier place rest) (c.earlier-first.ensures ∙ ap (spec.earlier c.loop-check.first) c.in_ok-bad.ensures) ∙ least_step (spec.bad_check (option_copied c.args.new) c.args.columns.now) c.args.checks.now c.loop-check.check-index c.check-item.result c.loop-check.first c.loop-check-test.true c.check-item.is ∙ c.loop-check.invariant
