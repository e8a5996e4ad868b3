use Rattle.std.proofs.Common.{◌∙◌, inr, ◌++◌, take, arith, length-append}
use Rattle.std.proofs.lemmas.Result.{err_from_is_err_and}
use Rattle.pg_io.specs.Laws.{consumes_more}
use Rattle.pg_io.proofs.whole.gather.Goals as goal

pub returns-then-count-limit-clause-too_long : goal.returns-then-count-limit-clause-too_long
returns-then-count-limit-clause-too_long g c = λ _.
    let bound = c.in_ok-count.ensures.bound.1 in
    let longer = length-append c.loop-text.text.items (take c.in_ok-count.count c.read.new.buf) in (
      c.loop-text.text.items ++ take c.in_ok-count.count c.read.new.buf,
      omega (arith, c.loop-text.text.ok.0),
      consumes_more _ _ _ _ _ c.loop-text.invariant.taken c.in_ok-count.ensures.bytes.0,
    )

pub returns-then-count-limit-clause-front : goal.returns-then-count-limit-clause-front
returns-then-count-limit-clause-front g c =
    (c.loop-text.text.items ++ take c.in_ok-count.count c.read.new.buf, consumes_more _ _ _ _ _ c.loop-text.invariant.taken c.in_ok-count.ensures.bytes.0)

pub returns-in_err-extend_from_slice-clause-front : goal.returns-in_err-extend_from_slice-clause-front
returns-in_err-extend_from_slice-clause-front g c =
    let p = err_from_is_err_and c.from_residual-in_err-extend_from_slice.result c.from_residual-in_err-extend_from_slice.ensures.1 in
    rw p.1 (c.loop-text.text.items ++ take c.in_ok-count.count c.read.new.buf, consumes_more _ _ _ _ _ c.loop-text.invariant.taken c.in_ok-count.ensures.bytes.0)

pub returns-then-count-eq0-clause-passed : goal.returns-then-count-eq0-clause-passed
returns-then-count-eq0-clause-passed g c = inr (c.in_ok-count.ensures.cause.passed ∙ c.loop-text.invariant.same)

pub returns-then-count-limit-clause-passed : goal.returns-then-count-limit-clause-passed
returns-then-count-limit-clause-passed g c = inr (c.in_ok-count.ensures.cause.passed ∙ c.loop-text.invariant.same)

pub returns-in_err-extend_from_slice-clause-passed : goal.returns-in_err-extend_from_slice-clause-passed
returns-in_err-extend_from_slice-clause-passed g c = inr (c.in_ok-count.ensures.cause.passed ∙ c.loop-text.invariant.same)
