use Rattle.row_index.proofs.Indexing.{have_room}
use Rattle.row_index.proofs.laws.prepared_changes_have_room.Goals as goal

pub returns : goal.returns
returns c = have_room
