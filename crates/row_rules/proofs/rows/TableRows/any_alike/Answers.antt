use Rattle.std.proofs.Common.{◌<◌, length, arith}
use Rattle.std.proofs.lemmas.Grind.{common_steps}
use Rattle.row_rules.proofs.Places.{here}
use Rattle.row_rules.proofs.rows.TableRows.any_alike.Goals as goal

pub returns-then-other_alike : goal.returns-then-other_alike
returns-then-other_alike g c =
    let rows = g.Self.TableRows.rows c.args.self.now in
    let within : c.loop-at.at < length rows = omega arith in
    let first = here rows c.loop-at.at _ within c.in_ok-row.ensures in
    grind (arith, common_steps, first)

pub loop-at-preserved : goal.loop-at-preserved
loop-at-preserved g c =
    let rows = g.Self.TableRows.rows c.args.self.now in
    let within : c.loop-at.at < length rows = omega arith in
    let first = here rows c.loop-at.at _ within c.in_ok-row.ensures in
    grind (arith, common_steps, first)
