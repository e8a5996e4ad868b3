use Rattle.mig_lens.proofs.HalvesFit.{backward_of_forward}
use Rattle.mig_lens.proofs.laws.nothing_is_lost_forward.Goals as goal

pub returns : goal.returns
returns c = backward_of_forward
