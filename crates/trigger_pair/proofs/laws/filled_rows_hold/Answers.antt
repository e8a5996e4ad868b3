use Rattle.trigger_pair.proofs.Halves.{filled_rows_hold}
use Rattle.trigger_pair.proofs.laws.filled_rows_hold.Goals as goal

pub returns : goal.returns
returns c = filled_rows_hold c.carried_columns_keep_their_values.ensures.forward
