use Rattle.std.proofs.Common.{arith, ◌+◌, ◌*◌, ◌-◌, slice_index, drop}
use Rattle.std.proofs.lemmas.Grind.{common_steps}
use Rattle.sql_eval.proofs.Reading.{read_digits-saturated}
use Rattle.sql_eval.proofs.cast.read_digits.Goals as goal

pub loop-b-preserved : goal.loop-b-preserved
loop-b-preserved c =
    let digit = slice_index c.args.digits.now c.loop-b.b-index in
    let rest = drop (c.loop-b.b-index + 1) c.args.digits.now in
    let step = read_digits-saturated (10 * c.loop-b.n + (digit - 48)) c.saturating_add-n.result rest (omega arith) in
    grind (arith, common_steps, step, c.loop-b.invariant)
