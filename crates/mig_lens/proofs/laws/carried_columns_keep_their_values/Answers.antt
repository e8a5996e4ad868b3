use Rattle.mig_lens.proofs.HalvesFit.{backward_carries, forward_carries}
use Rattle.mig_lens.proofs.laws.carried_columns_keep_their_values.Goals as goal

pub returns-clause-forward : goal.returns-clause-forward
returns-clause-forward c = forward_carries

pub returns-clause-backward : goal.returns-clause-backward
returns-clause-backward c = backward_carries
