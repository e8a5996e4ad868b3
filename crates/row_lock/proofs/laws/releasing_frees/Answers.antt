use Rattle.row_lock.proofs.Changes.{releasing_frees}
use Rattle.row_lock.proofs.laws.releasing_frees.Goals as goal

pub returns : goal.returns
returns c = releasing_frees
