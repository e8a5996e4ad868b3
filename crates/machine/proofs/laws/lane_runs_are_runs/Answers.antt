use Rattle.machine.proofs.Lanes.{lane_runs_are_runs, lane_steps_are_steps}
use Rattle.machine.proofs.laws.lane_runs_are_runs.Goals as goal

pub returns-clause-steps : goal.returns-clause-steps
returns-clause-steps c = lane_steps_are_steps

pub returns-clause-runs : goal.returns-clause-runs
returns-clause-runs c = lane_runs_are_runs c.laws_below.ensures
