use Rattle.sql_text.proofs.Doubled.{literals_are_doubled}
use Rattle.sql_text.proofs.laws.literals_are_doubled.Goals as goal

pub returns : goal.returns
returns c = literals_are_doubled
