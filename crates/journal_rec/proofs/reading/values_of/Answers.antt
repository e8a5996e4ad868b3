use Rattle.std.proofs.lemmas.Result.{err_from_is_err_and}
use Rattle.journal_rec.specs.Reading.{value_at}
use Rattle.journal_rec.proofs.Loop.{goes_on, fails, ends}
use Rattle.journal_rec.proofs.reading.values_of.Goals as goal

pub loop-preserved : goal.loop-preserved
loop-preserved c = rw c.in_ok-push.ensures.ok (goes_on value_at _ _ _ _ _ _ _ c.loop-test.true c.in_ok-value.ensures c.loop.invariant)

pub returns-in_err-value : goal.returns-in_err-value
returns-in_err-value c =
    let p = err_from_is_err_and c.from_residual.result c.from_residual.ensures.1 in
    rw p.1 (rw p.2 (fails value_at _ _ _ _ _ _ c.loop-test.true c.in_err-value.ensures c.loop.invariant))

pub returns : goal.returns
returns c = ends value_at _ _ _ _ _ c.loop-test.false c.loop.invariant
