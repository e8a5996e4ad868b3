use Rattle.machine.proofs.OldHalves.{old_halves_stay}
use Rattle.machine.proofs.laws.rolling_back_keeps_old_halves.Goals as goal

pub returns : goal.returns
returns c = old_halves_stay
