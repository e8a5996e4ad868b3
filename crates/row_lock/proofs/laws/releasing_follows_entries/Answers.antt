use Rattle.row_lock.proofs.Changes.{releases_each}
use Rattle.row_lock.proofs.laws.releasing_follows_entries.Goals as goal

pub returns : goal.returns
returns g c = releases_each _
