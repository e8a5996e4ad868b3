use Rattle.machine.proofs.Answering.{only_commands_are_refused}
use Rattle.machine.proofs.laws.only_commands_are_refused.Goals as goal

pub returns : goal.returns
returns c = only_commands_are_refused
