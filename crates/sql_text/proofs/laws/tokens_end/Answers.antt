use Rattle.sql_text.proofs.Proper.{tokens_end}
use Rattle.sql_text.proofs.laws.tokens_end.Goals as goal

pub returns : goal.returns
returns c = tokens_end
