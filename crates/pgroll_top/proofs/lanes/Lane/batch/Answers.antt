use Rattle.std.proofs.Common.{refl}
use Rattle.machine.specs.declared.events.Event.TheVariants as event
use Rattle.machine.specs.declared.tasks.Task.TheVariants as task
use Rattle.pgroll_top.proofs.Advancing.{does_one}
use Rattle.pgroll_top.proofs.lanes.Lane.batch.Goals as goal

pub returns-clause-does : goal.returns-clause-does
returns-clause-does g c =
    does_one c.args.self.now _ (task.Batch c.args.count) 0 (event.Fill c.args.count) c.batch-reply.result c.batch-reply.new.self c.args.self.now.path c.tell.new.self c.tell.result c.batch-reply.ensures.machine c.batch-reply.ensures.step refl c.tell.ensures.counted c.tell.ensures.shows (record { by = refl; event = refl })
