use Rattle.std.proofs.Common.{◌≡◌, w64, to_z, of_z, rules, subst}
use Rattle.row_rules.proofs.Calls.{went_on}
use Rattle.row_rules.specs.Accept.{sound}
use Rattle.row_rules.specs.Inner.{begun}
use Rattle.row_rules.specs.Outcome.{Answers}
use Rattle.row_rules.specs.Site.{site_of}
use Rattle.row_rules.proofs.writing.filled_row.Goals as goal

pub returns : goal.returns
returns c =
    let site = site_of c.args.site in
    let row = c.args.row.now in
    let same : to_z w64 (of_z w64 row.key) ≡ row.key = search rules in
    let next = subst (λ key. Answers (sound site (record { key = key; halves = c.in_ok-halves.halves; lost = row.lost })) c.sound.result) same c.sound.ensures in
    went_on (begun site row) (λ halves. sound site (record row { halves = halves })) c.in_ok-halves.halves c.sound.result c.in_ok-halves.ensures next
