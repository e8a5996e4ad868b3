use Rattle.journal_rec.proofs.Bodies.{body_again, body_read}
use Rattle.journal_rec.proofs.laws.a_body_is_read_as_its_record.Goals as goal

pub returns-clause-read : goal.returns-clause-read
returns-clause-read c = body_again

pub returns-clause-body : goal.returns-clause-body
returns-clause-body c = body_read
