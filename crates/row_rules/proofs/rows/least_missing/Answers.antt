use Rattle.std.proofs.Common.{◌-◌, ◌<◌, length, arith}
use Rattle.std.proofs.lemmas.Grind.{common_steps}
use Rattle.row_rules.proofs.Places.{missing_key}
use Rattle.row_rules.proofs.rows.least_missing.Goals as goal

pub loop-at-preserved : goal.loop-at-preserved
loop-at-preserved g c =
    let rows = g.T.TableRows.rows c.args.rows.now in
    let at = c.loop-at.at - 1 in
    let within : at < length rows = omega arith in
    let here = missing_key rows at _ _ within c.key_at.ensures c.misses_at.ensures in
    grind (arith, common_steps, here)
