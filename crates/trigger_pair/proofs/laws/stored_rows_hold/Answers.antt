use Rattle.trigger_pair.proofs.Halves.{stored_rows_hold}
use Rattle.trigger_pair.proofs.laws.stored_rows_hold.Goals as goal

pub returns : goal.returns
returns c = stored_rows_hold
