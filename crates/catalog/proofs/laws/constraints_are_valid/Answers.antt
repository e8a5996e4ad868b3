use Rattle.catalog.proofs.Constraints.{old_constraints_stay_valid, valid_while_calm}
use Rattle.catalog.proofs.laws.constraints_are_valid.Goals as goal

pub returns-clause-calm : goal.returns-clause-calm
returns-clause-calm c = valid_while_calm

pub returns-clause-old : goal.returns-clause-old
returns-clause-old c = old_constraints_stay_valid
