use Rattle.std.proofs.Common.{rules}
use Rattle.row_rules.specs.Changes.{new_row}
use Rattle.row_rules.specs.Site.{site_of}
use Rattle.row_rules.proofs.changing.new_rows.Goals as goal

pub returns : goal.returns
returns c = c.puts.ensures (new_row (site_of c.args.site)) (search rules)
