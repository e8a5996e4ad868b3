use Rattle.std.proofs.Common.{◌<◌, length, arith}
use Rattle.std.proofs.lemmas.Grind.{common_steps}
use Rattle.row_rules.proofs.Places.{any_missing_here}
use Rattle.row_rules.proofs.rows.any_missing.Goals as goal

pub returns-then-misses_at : goal.returns-then-misses_at
returns-then-misses_at g c =
    let rows = g.T.TableRows.rows c.args.rows.now in
    let within : c.loop-at.at < length rows = omega arith in
    let here = any_missing_here rows c.loop-at.at _ within c.misses_at.ensures in
    grind (arith, common_steps, here)

pub loop-at-preserved : goal.loop-at-preserved
loop-at-preserved g c =
    let rows = g.T.TableRows.rows c.args.rows.now in
    let within : c.loop-at.at < length rows = omega arith in
    let here = any_missing_here rows c.loop-at.at _ within c.misses_at.ensures in
    grind (arith, common_steps, here)
