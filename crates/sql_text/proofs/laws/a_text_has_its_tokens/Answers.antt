use Rattle.sql_text.proofs.Canonical.{canonical}
use Rattle.sql_text.proofs.laws.a_text_has_its_tokens.Goals as goal

pub returns : goal.returns
returns c = canonical
