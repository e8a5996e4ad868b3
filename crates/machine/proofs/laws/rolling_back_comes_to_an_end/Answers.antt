use Rattle.machine.proofs.Ending.{steps_back_are_few, steps_back_leave_fewer}
use Rattle.machine.proofs.laws.rolling_back_comes_to_an_end.Goals as goal

pub returns-clause-fewer : goal.returns-clause-fewer
returns-clause-fewer c = steps_back_leave_fewer

pub returns-clause-few : goal.returns-clause-few
returns-clause-few c = steps_back_are_few
