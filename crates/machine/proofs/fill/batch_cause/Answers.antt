use Rattle.std.proofs.Common.{◌≡◌, IfOk, subst}
use Rattle.row_rules.specs.Changes.{cause_together}
use Rattle.row_rules.specs.Site.{number_of, site_of}
use Rattle.machine.specs.State.{rows_of}
use Rattle.machine.specs.Words.job
use Rattle.machine.proofs.fill.batch_cause.Goals as goal

pub returns : goal.returns
returns c =
    let by_rows = subst (λ rows. IfOk c.cause_together.result (λ cause. cause ≡ cause_together (site_of c.filling_site.result) job.Fill rows c.args.all.now)) c.rows_of-rows.ensures c.cause_together.ensures in
    subst (λ site. IfOk c.cause_together.result (λ cause. cause ≡ cause_together site job.Fill (rows_of c.args.s.now (number_of c.args.pair.new.now)) c.args.all.now)) c.filling_site.ensures by_rows
