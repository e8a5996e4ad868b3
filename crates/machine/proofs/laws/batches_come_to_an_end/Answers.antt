use Rattle.machine.proofs.Emptying.{batches_leave_fewer, unfilled_rows_are_few}
use Rattle.machine.proofs.laws.batches_come_to_an_end.Goals as goal

pub returns-clause-fewer : goal.returns-clause-fewer
returns-clause-fewer c = batches_leave_fewer

pub returns-clause-few : goal.returns-clause-few
returns-clause-few c = unfilled_rows_are_few
