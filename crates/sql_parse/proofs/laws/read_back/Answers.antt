use Rattle.sql_text.specs.Printing.{written}
use Rattle.sql_parse.proofs.Returned.{written_reads_whole}
use Rattle.sql_parse.proofs.laws.read_back.Goals as goal

pub returns : goal.returns
returns c = λ a has. record { tokens = written a; ends = c.a_text_has_its_tokens.ensures a has; reads = written_reads_whole has }
