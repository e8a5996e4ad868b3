use Rattle.row_index.proofs.Indexing.{changes_in_index, changes_indexed}
use Rattle.row_index.proofs.laws.changes_are_indexed.Goals as goal

pub returns-clause-each : goal.returns-clause-each
returns-clause-each c =
    changes_indexed (changes_in_index c.changes_are_indexed.ensures.put c.changes_are_indexed.ensures.removed c.changes_keep_order.ensures)

pub returns-clause-one : goal.returns-clause-one
returns-clause-one c =
    changes_in_index c.changes_are_indexed.ensures.put c.changes_are_indexed.ensures.removed c.changes_keep_order.ensures
