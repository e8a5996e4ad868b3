use Rattle.std.proofs.Common.{rules}
use Rattle.row_rules.proofs.Making.{new_from}
use Rattle.row_rules.specs.Site.{site_of}
use Rattle.row_rules.proofs.writing.new_row.Goals as goal

pub returns : goal.returns
returns c =
    new_from (site_of c.args.site) _ c.args.values.now c.in_ok-values.values c.remade.result (search rules) (search rules) c.remade.ensures
