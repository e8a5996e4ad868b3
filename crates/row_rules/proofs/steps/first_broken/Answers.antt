use Rattle.std.proofs.Common.{◌<◌, length, arith}
use Rattle.std.proofs.lemmas.Grind.{common_steps}
use Rattle.row_rules.proofs.Places.{here}
use Rattle.row_rules.proofs.steps.first_broken.Goals as goal

pub returns-then-is_some : goal.returns-then-is_some
returns-then-is_some g c =
    let rows = g.T.TableRows.rows c.args.rows.now in
    let within : c.loop-at.at < length rows = omega arith in
    let first = here rows c.loop-at.at _ within c.in_ok-row.ensures in
    grind (arith, common_steps, first)

pub loop-at-preserved : goal.loop-at-preserved
loop-at-preserved g c =
    let rows = g.T.TableRows.rows c.args.rows.now in
    let within : c.loop-at.at < length rows = omega arith in
    let first = here rows c.loop-at.at _ within c.in_ok-row.ensures in
    grind (arith, common_steps, first)
