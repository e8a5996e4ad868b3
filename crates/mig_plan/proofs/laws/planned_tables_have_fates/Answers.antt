use Rattle.mig_plan.proofs.Fates.{planned_fates_stand, tables_have_fates}
use Rattle.mig_plan.proofs.Numbered.{planned_fates_differ}
use Rattle.mig_plan.proofs.laws.planned_tables_have_fates.Goals as goal

pub returns-clause-stand : goal.returns-clause-stand
returns-clause-stand c = planned_fates_stand

pub returns-clause-all : goal.returns-clause-all
returns-clause-all c = tables_have_fates

pub returns-clause-differ : goal.returns-clause-differ
returns-clause-differ c = planned_fates_differ
