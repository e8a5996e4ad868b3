use Rattle.mig_plan.proofs.PlansWantNothing.{planning_wants_nothing}
use Rattle.mig_plan.proofs.laws.planning_wants_nothing.Goals as goal

pub returns : goal.returns
returns c = planning_wants_nothing
