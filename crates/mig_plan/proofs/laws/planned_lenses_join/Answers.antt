use Rattle.mig_plan.proofs.OnlyAdded.{added_columns_lose_nothing}
use Rattle.mig_plan.proofs.Planned.{planned_lenses_join}
use Rattle.mig_plan.proofs.laws.planned_lenses_join.Goals as goal

pub returns-clause-join : goal.returns-clause-join
returns-clause-join c = planned_lenses_join

pub returns-clause-carry : goal.returns-clause-carry
returns-clause-carry c = added_columns_lose_nothing
