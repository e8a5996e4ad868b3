use Rattle.std.proofs.Common.{◌≡◌, Ok, subst}
use Rattle.row_rules.specs.Causes.{row_error}
use Rattle.row_rules.specs.Changes.{changes}
use Rattle.row_rules.specs.Outcome.{Answers}
use Rattle.row_rules.specs.Site.{site_of}
use Rattle.machine.specs.Plain.{replied}
use Rattle.machine.specs.Statement.{error_reply, settled}
use Rattle.machine.proofs.Replying.{answers_next}
use Rattle.machine.proofs.writing.job_outcome.Goals as goal

pub returns-in-Ok : goal.returns-in-Ok
returns-in-Ok c =
    let s = c.args.s.now in
    let site = site_of c.args.site in
    let e = subst (λ rows. changes site c.args.job.now rows ≡ Ok c.in-Ok.all) c.rows_of.ensures c.in-Ok.ensures in
    let h = subst (λ all. Answers (replied (settled s site c.args.job.now all)) c.job_settled.result) c.as_slice.ensures c.job_settled.ensures in
    answers_next _ (λ cause. error_reply (row_error cause)) (settled s site c.args.job.now) _ _ e h
