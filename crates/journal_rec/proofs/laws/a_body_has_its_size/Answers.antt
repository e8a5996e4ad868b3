use Rattle.journal_rec.proofs.Sizes.{of_body}
use Rattle.journal_rec.proofs.laws.a_body_has_its_size.Goals as goal

pub returns : goal.returns
returns c = of_body
