use Rattle.sql_text.proofs.Identified.{identified}
use Rattle.sql_text.proofs.laws.identifiers_are_names.Goals as goal

pub returns : goal.returns
returns c = identified
