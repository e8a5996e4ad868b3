use Rattle.machine.proofs.Starting.{unfilled_is}
use Rattle.machine.proofs.laws.begun_halves_are_made.Goals as goal

pub returns : goal.returns
returns c = λ lens old half unmarked. unfilled_is old half 0 lens.new_cols unmarked
