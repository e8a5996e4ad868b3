use Rattle.trigger_pair.proofs.Halves.{pairs_are_long}
use Rattle.trigger_pair.proofs.laws.pairs_are_long.Goals as goal

pub returns : goal.returns
returns c = pairs_are_long
