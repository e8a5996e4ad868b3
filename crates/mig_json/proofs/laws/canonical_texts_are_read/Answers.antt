use Rattle.mig_json.proofs.Back.{canonical_texts_are_read}
use Rattle.mig_json.proofs.laws.canonical_texts_are_read.Goals as goal

pub returns : goal.returns
returns c = canonical_texts_are_read c.read_back.ensures c.trees_have_text.ensures
