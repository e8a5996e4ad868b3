use Rattle.uniq_index.proofs.Lawful.{put_is_indexed, removed_is_not_indexed}
use Rattle.uniq_index.proofs.laws.changes_are_indexed.Goals as goal

pub returns-clause-put : goal.returns-clause-put
returns-clause-put c = put_is_indexed

pub returns-clause-removed : goal.returns-clause-removed
returns-clause-removed c = removed_is_not_indexed c.changes_keep_order.ensures.removed
