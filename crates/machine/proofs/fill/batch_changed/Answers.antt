use Rattle.std.proofs.Common.{◌≡◌, IfOk, subst}
use Rattle.machine.specs.Plain.{told}
use Rattle.machine.specs.Statement.{changed}
use Rattle.machine.specs.Words.job
use Rattle.machine.proofs.fill.batch_changed.Goals as goal

pub returns : goal.returns
returns c = subst (λ site. IfOk c.job_done.result (λ done. done ≡ told (changed c.args.s.now site job.Fill c.args.all.now))) c.filling_site.ensures c.job_done.ensures
