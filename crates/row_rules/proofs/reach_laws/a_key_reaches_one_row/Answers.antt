use Rattle.row_rules.proofs.OneRow.{reaches_one}
use Rattle.row_rules.proofs.reach_laws.a_key_reaches_one_row.Goals as goal

pub returns : goal.returns
returns c = reaches_one
