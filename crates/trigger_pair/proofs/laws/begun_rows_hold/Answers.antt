use Rattle.trigger_pair.proofs.Halves.{begun_rows_hold}
use Rattle.trigger_pair.proofs.laws.begun_rows_hold.Goals as goal

pub returns : goal.returns
returns c = begun_rows_hold
