use Rattle.std.proofs.Common.{refl}
use Rattle.machine.specs.declared.events.Event.TheVariants as event
use Rattle.machine.specs.declared.tasks.Task.TheVariants as task
use Rattle.pgroll_top.proofs.Advancing.{does_one}
use Rattle.pgroll_top.proofs.lanes.Lane.say.Goals as goal

pub returns-clause-does : goal.returns-clause-does
returns-clause-does g c =
    let said = c.answer-reply.ensures in (
      said.0,
      said.1,
      does_one c.args.self.now _ (task.Say said.0) 1 (event.Said c.args.self.now.path said.0) c.answer-reply.result c.answer-reply.new.core c.answer-reply.new.path c.tell.new.self c.tell.result said.2 said.2 said.3 c.tell.ensures.counted c.tell.ensures.shows (record { by = refl; event = refl }),
    )
