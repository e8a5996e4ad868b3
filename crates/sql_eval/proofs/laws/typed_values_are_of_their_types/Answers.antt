use Rattle.sql_eval.proofs.Soundness.{typed_is_sound}
use Rattle.sql_eval.proofs.laws.typed_values_are_of_their_types.Goals as goal

pub returns : goal.returns
returns c = typed_is_sound
