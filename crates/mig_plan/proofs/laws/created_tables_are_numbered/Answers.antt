use Rattle.mig_plan.proofs.Numbered.{created_tables_are_numbered, planned_numbers_fit, plans_stay_below}
use Rattle.mig_plan.proofs.laws.created_tables_are_numbered.Goals as goal

pub returns-clause-numbers : goal.returns-clause-numbers
returns-clause-numbers c = created_tables_are_numbered

pub returns-clause-below : goal.returns-clause-below
returns-clause-below c = plans_stay_below

pub returns-clause-fit : goal.returns-clause-fit
returns-clause-fit c = planned_numbers_fit
