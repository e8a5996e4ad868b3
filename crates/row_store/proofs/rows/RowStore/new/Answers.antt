use Rattle.row_store.proofs.Maps.{empty-map_of}
use Rattle.row_store.proofs.rows.RowStore.new.Goals as goal

pub returns : goal.returns
returns c =
    empty-map_of c.new.result.items c.new.ensures.items
