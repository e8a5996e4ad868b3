use Rattle.constraint.proofs.Lawful.{none_is_told_of_valid_rows}
use Rattle.constraint.proofs.laws.none_is_told_of_valid_rows.Goals as goal

pub returns : goal.returns
returns c = none_is_told_of_valid_rows
