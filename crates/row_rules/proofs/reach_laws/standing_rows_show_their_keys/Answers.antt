use Rattle.row_rules.proofs.ShownKeys.{standing_show_keys}
use Rattle.row_rules.proofs.reach_laws.standing_rows_show_their_keys.Goals as goal

pub returns : goal.returns
returns c = standing_show_keys
