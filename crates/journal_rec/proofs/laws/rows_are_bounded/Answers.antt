use Rattle.journal_rec.proofs.Sizes.{rows_bounded}
use Rattle.journal_rec.proofs.laws.rows_are_bounded.Goals as goal

pub returns : goal.returns
returns c = rows_bounded
