use Rattle.machine.proofs.Phased.{phases_say_steps, rolling_back_is_done}
use Rattle.machine.proofs.laws.phases_say_steps.Goals as goal

pub returns-clause-steps : goal.returns-clause-steps
returns-clause-steps c = phases_say_steps

pub returns-clause-accepted : goal.returns-clause-accepted
returns-clause-accepted c = rolling_back_is_done
