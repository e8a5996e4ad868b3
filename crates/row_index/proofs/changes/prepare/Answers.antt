use Rattle.std.proofs.Common.{◌<◌, length, arith}
use Rattle.std.proofs.lemmas.Grind.{common_steps}
use Rattle.row_index.proofs.Looping.{prepared_step}
use Rattle.row_index.proofs.changes.prepare.Goals as goal

pub loop-unique-preserved : goal.loop-unique-preserved
loop-unique-preserved c =
    let uniques = c.args.uniques.now in
    let within : c.loop-unique.unique-index < length uniques = omega arith in
    let step =
    prepared_step uniques c.args.side c.args.changes.now c.loop-unique.unique-index c.unique-item.result _ within c.unique-item.is in
    grind (arith, common_steps, step)
