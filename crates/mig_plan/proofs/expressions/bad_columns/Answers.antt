use Rattle.std.proofs.Common.{◌∙◌, ◌+◌, ap, drop, map}
use Rattle.std.specs.Option.{option_copied}
use Rattle.mig_plan.specs.Places as spec
use Rattle.mig_plan.proofs.Earlier.{least_step}
use Rattle.mig_plan.proofs.expressions.bad_columns.Goals as goal

pub loop-column-preserved : goal.loop-column-preserved
loop-column-preserved c =
    let rest = spec.least (map (spec.bad_column (option_copied c.args.old) (option_copied c.args.new)) (drop (c.loop-column.column-index + 1) c.args.columns.now)) in
    ap (λ place. spec.earlier place rest) (c.earlier-first.ensures ∙ ap (spec.earlier c.loop-column.first) c.in_ok-bad.ensures) ∙ least_step (spec.bad_column (option_copied c.args.old) (option_copied c.args.new)) c.args.columns.now c.loop-column.column-index c.column-item.result c.loop-column.first c.loop-column-test.true c.column-item.is ∙ c.loop-column.invariant
