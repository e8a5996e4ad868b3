use Rattle.mig_lens.proofs.HalvesFit.{unmade_never_faults}
use Rattle.mig_lens.proofs.laws.constants_never_fault.Goals as goal

pub returns : goal.returns
returns c = unmade_never_faults
