use Rattle.journal.proofs.Listing.{no_beginning}
use Rattle.journal.proofs.laws.a_journal_has_its_beginning.Goals as goal

pub returns : goal.returns
returns c = no_beginning
