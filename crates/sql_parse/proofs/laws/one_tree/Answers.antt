use Rattle.sql_parse.proofs.Complete.{one_tree}
use Rattle.sql_parse.proofs.laws.one_tree.Goals as goal

pub returns : goal.returns
returns c = one_tree
