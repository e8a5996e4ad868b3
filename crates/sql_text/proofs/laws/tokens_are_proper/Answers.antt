use Rattle.sql_text.proofs.Proper.{tokens_are_proper}
use Rattle.sql_text.proofs.laws.tokens_are_proper.Goals as goal

pub returns : goal.returns
returns c = tokens_are_proper
