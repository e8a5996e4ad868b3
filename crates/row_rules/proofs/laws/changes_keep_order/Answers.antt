use Rattle.row_rules.proofs.Ascending.{changes_ascend}
use Rattle.row_rules.proofs.laws.changes_keep_order.Goals as goal

pub returns : goal.returns
returns c = changes_ascend
