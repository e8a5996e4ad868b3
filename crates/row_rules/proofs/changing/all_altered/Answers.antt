use Rattle.std.proofs.Common.{rules}
use Rattle.row_rules.specs.Changes.{altered_row}
use Rattle.row_rules.specs.Site.{site_of}
use Rattle.row_rules.proofs.changing.all_altered.Goals as goal

pub returns : goal.returns
returns c = c.puts.ensures (altered_row (site_of c.args.site) c.args.sets.now) (search rules)
