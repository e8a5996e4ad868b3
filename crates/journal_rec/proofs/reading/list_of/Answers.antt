use Rattle.std.proofs.lemmas.Result.{err_from_is_err_and}
use Rattle.journal_rec.specs.Reading.{row_at}
use Rattle.journal_rec.proofs.Loop.{goes_on, fails, ends}
use Rattle.journal_rec.proofs.reading.list_of.Goals as goal

pub loop-preserved : goal.loop-preserved
loop-preserved c = rw c.in_ok-push.ensures.ok (goes_on row_at _ _ _ _ _ _ _ c.loop-test.true c.in_ok-row.ensures c.loop.invariant)

pub returns-in_err-row : goal.returns-in_err-row
returns-in_err-row c =
    let p = err_from_is_err_and c.from_residual.result c.from_residual.ensures.1 in
    rw p.1 (rw p.2 (fails row_at _ _ _ _ _ _ c.loop-test.true c.in_err-row.ensures c.loop.invariant))

pub returns : goal.returns
returns c = ends row_at _ _ _ _ _ c.loop-test.false c.loop.invariant
