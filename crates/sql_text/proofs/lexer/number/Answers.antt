use Rattle.std.proofs.Common.{arith, ◌+◌, ◌*◌, slice_index, drop}
use Rattle.std.proofs.lemmas.Grind.{common_steps}
use Rattle.std.specs.Char.{digit_value}
use Rattle.sql_text.proofs.Numbers.{digits_saturated}
use Rattle.sql_text.proofs.lexer.number.Goals as goal

pub loop-digit-preserved : goal.loop-digit-preserved
loop-digit-preserved c =
    let digit = slice_index c.args.digits.now c.loop-digit.digit-index in
    let rest = drop (c.loop-digit.digit-index + 1) c.args.digits.now in
    let step = digits_saturated (c.loop-digit.n * 10 + digit_value digit) c.saturating_add-n.result rest (grind (arith, common_steps, c.loop-digit.invariant)) in
    grind (arith, common_steps, step, c.loop-digit.invariant)
