use Rattle.journal_rec.proofs.Bodies.{one_record}
use Rattle.journal_rec.proofs.laws.a_body_is_of_one_record.Goals as goal

pub returns : goal.returns
returns c = one_record
