use Rattle.std.proofs.Common.{rules}
use Rattle.row_rules.proofs.Making.{altered_same}
use Rattle.row_rules.specs.Site.{site_of}
use Rattle.row_rules.proofs.writing.altered_half.Goals as goal

pub returns : goal.returns
returns c =
    altered_same (site_of c.args.site) c.args.sets.now c.args.row.now c.args.halves.now _ _ c.in_row.result (search rules) (search rules) (c.in_row.ensures _ c.altered.ensures)
