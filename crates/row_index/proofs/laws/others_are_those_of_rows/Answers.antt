use Rattle.row_index.proofs.Indexing as indexing
use Rattle.row_index.proofs.laws.others_are_those_of_rows.Goals as goal

pub returns : goal.returns
returns c = indexing.others_are_those_of_rows
