use Rattle.machine.proofs.AgreeingChanges.{changes_agree}
use Rattle.machine.proofs.laws.carried_columns_agree.Goals as goal

pub returns : goal.returns
returns c = changes_agree c.laws_below.ensures
