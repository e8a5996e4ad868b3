use Rattle.trigger_pair.proofs.PairedRows.{beginning_leaves, filling_fills, new_writes_fill, old_writes_fill}
use Rattle.trigger_pair.proofs.laws.stored_rows_are_paired.Goals as goal

pub returns-clause-old : goal.returns-clause-old
returns-clause-old c = old_writes_fill c.made_halves_fit.ensures.forward

pub returns-clause-new : goal.returns-clause-new
returns-clause-new c = new_writes_fill c.made_halves_fit.ensures.backward

pub returns-clause-filling : goal.returns-clause-filling
returns-clause-filling c = filling_fills c.made_halves_fit.ensures.forward

pub returns-clause-begun : goal.returns-clause-begun
returns-clause-begun c = beginning_leaves c.made_halves_fit.ensures.forward
