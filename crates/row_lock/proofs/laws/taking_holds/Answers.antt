use Rattle.row_lock.proofs.Changes.{taking_holds}
use Rattle.row_lock.proofs.laws.taking_holds.Goals as goal

pub returns : goal.returns
returns c = taking_holds
