use Rattle.std.proofs.Common.{rules}
use Rattle.row_rules.proofs.Calls.{went_on}
use Rattle.row_rules.proofs.Making.{remade_same}
use Rattle.row_rules.specs.Changes.{remade}
use Rattle.row_rules.specs.Inner.{altered_half}
use Rattle.row_rules.specs.Site.{half, other, site_of}
use Rattle.row_rules.proofs.writing.altered_halves.Goals as goal

pub returns : goal.returns
returns c =
    let site = site_of c.args.site in
    let row = c.args.row.now in
    let halves = c.args.halves.now in
    let next = remade_same site row.key _ row.lost (half (other site.side) halves) _ c.in_ok-values.values c.remade.result (search rules) (search rules) c.remade.ensures in
    went_on (altered_half site c.args.sets.now row halves) (λ values. remade site row.key row.lost (half (other site.side) halves) values) c.in_ok-values.values c.remade.result c.in_ok-values.ensures next
