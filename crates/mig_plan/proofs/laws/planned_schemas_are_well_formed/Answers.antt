use Rattle.mig_plan.proofs.Planned.{planned_schema}
use Rattle.mig_plan.proofs.laws.planned_schemas_are_well_formed.Goals as goal

pub returns : goal.returns
returns c = planned_schema
