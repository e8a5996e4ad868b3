use Rattle.machine.proofs.Running.{runs_reach_states, steps_keep_states}
use Rattle.machine.proofs.laws.states_stand.Goals as goal

pub returns-clause-steps : goal.returns-clause-steps
returns-clause-steps c = steps_keep_states c.laws_below.ensures

pub returns-clause-runs : goal.returns-clause-runs
returns-clause-runs c = runs_reach_states c.laws_below.ensures
