use Rattle.uniq_index.proofs.Beside.{beside_one_key}
use Rattle.uniq_index.proofs.laws.beside_one_key_it_is_its_clash.Goals as goal

pub returns : goal.returns
returns c = beside_one_key
