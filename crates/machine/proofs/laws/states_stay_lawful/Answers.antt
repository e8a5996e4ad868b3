use Rattle.machine.proofs.KeepingLaws.{runs_reach_lawful, steps_keep_laws}
use Rattle.machine.proofs.laws.states_stay_lawful.Goals as goal

pub returns-clause-steps : goal.returns-clause-steps
returns-clause-steps c = steps_keep_laws c.laws_below.ensures

pub returns-clause-runs : goal.returns-clause-runs
returns-clause-runs c = runs_reach_lawful c.laws_below.ensures
