use Rattle.row_store.proofs.Lawful.{first_is_least}
use Rattle.row_store.proofs.laws.scans_find_the_least.Goals as goal

pub returns : goal.returns
returns c = first_is_least
