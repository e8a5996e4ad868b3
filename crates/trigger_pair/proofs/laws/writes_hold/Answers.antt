use Rattle.trigger_pair.proofs.Halves.{new_writes_hold, old_writes_hold}
use Rattle.trigger_pair.proofs.laws.writes_hold.Goals as goal

pub returns-clause-old : goal.returns-clause-old
returns-clause-old c = old_writes_hold c.carried_columns_keep_their_values.ensures.forward

pub returns-clause-new : goal.returns-clause-new
returns-clause-new c = new_writes_hold c.carried_columns_keep_their_values.ensures.backward
