use Rattle.row_rules.proofs.Lasting.{old_shows}
use Rattle.row_rules.proofs.laws.the_old_version_shows_old_halves.Goals as goal

pub returns : goal.returns
returns c = old_shows
