use Rattle.std.proofs.Common.{◌∙◌, ◌+◌, ap, drop, map}
use Rattle.mig_plan.specs.Places as spec
use Rattle.mig_plan.proofs.Earlier.{least_step}
use Rattle.mig_plan.proofs.expressions.first_bad.Goals as goal

pub loop-table-preserved : goal.loop-table-preserved
loop-table-preserved c =
    let rest = spec.least (map (spec.bad_table c.args.old.now) (drop (c.loop-table.table-index + 1) c.args.tables.now)) in
    ap (λ place. spec.earlier place rest) (c.earlier-first.ensures ∙ ap (spec.earlier c.loop-table.first) c.in_ok-bad.ensures) ∙ least_step (spec.bad_table c.args.old.now) c.args.tables.now c.loop-table.table-index c.table-item.result c.loop-table.first c.loop-table-test.true c.table-item.is ∙ c.loop-table.invariant
