use Rattle.sql_text.proofs.Proper.{places_are_inside}
use Rattle.sql_text.proofs.laws.places_are_inside.Goals as goal

pub returns : goal.returns
returns c = places_are_inside
