use Rattle.row_store.proofs.Lawful.{put_is_in_order, removed_is_left_out}
use Rattle.row_store.proofs.laws.changes_keep_order.Goals as goal

pub returns-clause-put : goal.returns-clause-put
returns-clause-put c = put_is_in_order

pub returns-clause-removed : goal.returns-clause-removed
returns-clause-removed c = removed_is_left_out
