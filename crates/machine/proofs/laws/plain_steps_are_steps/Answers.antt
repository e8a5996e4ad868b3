use Rattle.machine.proofs.Choosing.{plain_steps_are_steps}
use Rattle.machine.proofs.laws.plain_steps_are_steps.Goals as goal

pub returns : goal.returns
returns c = plain_steps_are_steps
