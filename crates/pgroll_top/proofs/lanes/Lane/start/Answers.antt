use Rattle.std.proofs.Common.{refl}
use Rattle.std.proofs.lemmas.Result.{err_from_is_err_and}
use Rattle.machine.specs.declared.events.Event.TheVariants as event
use Rattle.machine.specs.declared.tasks.Task.TheVariants as task
use Rattle.pgroll_top.proofs.Advancing.{does_one, none_done}
use Rattle.pgroll_top.proofs.Tasks.{some_asked}
use Rattle.pgroll_top.proofs.lanes.Lane.start.Goals as goal

pub returns-in_err-asked-clause-does : goal.returns-in_err-asked-clause-does
returns-in_err-asked-clause-does g c =
    let p = err_from_is_err_and c.from_residual.result c.from_residual.ensures.1 in
    let asked = some_asked c.texts_read_or_fail.ensures.either c.args.text.now in
    rw (p.1, p.2) (asked.0, asked.1, none_done c.args.self.now c.args.self.now.core refl _ _ (task.Start asked.0))

pub returns-in_err-reply-clause-does : goal.returns-in_err-reply-clause-does
returns-in_err-reply-clause-does g c =
    let p = err_from_is_err_and c.from_residual-in_err-reply.result c.from_residual-in_err-reply.ensures.1 in
    rw (p.1, p.2) (c.in_ok-asked.field-0, c.in_ok-asked.ensures, none_done c.args.self.now c.ddl.new.self c.in_err-reply.ensures.err _ _ (task.Start c.in_ok-asked.field-0))

pub returns-clause-does : goal.returns-clause-does
returns-clause-does g c = (
  c.in_ok-asked.field-0,
  c.in_ok-asked.ensures,
  does_one c.args.self.now _ (task.Start c.in_ok-asked.field-0) 0 (event.Start c.in_ok-asked.field-0) c.in_ok-reply.reply c.ddl.new.self c.args.self.now.path c.tell.new.self c.tell.result c.in_ok-reply.ensures.step c.in_ok-reply.ensures.step refl c.tell.ensures.counted c.tell.ensures.shows (record { by = refl; event = refl }),
)
