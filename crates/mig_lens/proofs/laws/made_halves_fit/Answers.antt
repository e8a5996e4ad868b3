use Rattle.mig_lens.proofs.HalvesFit.{backward_fits, forward_fits}
use Rattle.mig_lens.proofs.laws.made_halves_fit.Goals as goal

pub returns-clause-forward : goal.returns-clause-forward
returns-clause-forward c = forward_fits c.typed_values_are_of_their_types.ensures

pub returns-clause-backward : goal.returns-clause-backward
returns-clause-backward c = backward_fits c.typed_values_are_of_their_types.ensures
