use Rattle.std.proofs.Common.{arith}
use Rattle.script_text.proofs.Counting.{NextDigit, next_digit}
use Rattle.script_text.proofs.orders.count_of.Goals as goal

pub overflow_mul-count : goal.overflow_mul-count
overflow_mul-count c =
    let next : NextDigit c.args.digits.now c.loop-digit.digit-index = next_digit _ _ c.requires.digits c.requires.few c.loop-digit-test.true in
    omega (arith, c.loop-digit.invariant)

pub overflow_add-count : goal.overflow_add-count
overflow_add-count c =
    let next : NextDigit c.args.digits.now c.loop-digit.digit-index = next_digit _ _ c.requires.digits c.requires.few c.loop-digit-test.true in
    omega (arith, c.loop-digit.invariant)

pub loop-digit-preserved : goal.loop-digit-preserved
loop-digit-preserved c =
    let next : NextDigit c.args.digits.now c.loop-digit.digit-index = next_digit _ _ c.requires.digits c.requires.few c.loop-digit-test.true in
    omega (arith, c.loop-digit.invariant)
