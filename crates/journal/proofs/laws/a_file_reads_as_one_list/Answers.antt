use Rattle.journal.proofs.Listing.{one_list}
use Rattle.journal.proofs.laws.a_file_reads_as_one_list.Goals as goal

pub returns : goal.returns
returns c = one_list
