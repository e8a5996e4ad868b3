use Rattle.std.proofs.Common.{[], subst, sym}
use Rattle.std.proofs.lemmas.Result.{err_from_is_err_and}
use Rattle.pg_io.specs.Outside.{known}
use Rattle.pgroll_top.proofs.Working.{Worked, no_work, stopped_at_once, worked_more, worked_stopped}
use Rattle.pgroll_top.proofs.exec.work.Goals as goal

pub loop-line-init : goal.loop-line-init
loop-line-init g c =
    let output = known g.K.Sink.held g.K.Sink.faults c.args.out.now c.args.out.now in
    ([], subst (λ lane. Worked c.args.lines.now 0 lane output []) (sym c.in_ok-lane.ensures) (no_work c.args.lines.now _ _))

pub returns-in_err-lane-clause-works : goal.returns-in_err-lane-clause-works
returns-in_err-lane-clause-works g c =
    let p = err_from_is_err_and c.from_residual.result c.from_residual.ensures.1 in
    rw (p.1, p.2) (stopped_at_once c.texts_read_or_fail.ensures.either c.statements_read_or_fail.ensures.either c.args.lines.now _ _)

pub returns-in_err-serve-clause-works : goal.returns-in_err-serve-clause-works
returns-in_err-serve-clause-works g c =
    let p = err_from_is_err_and c.from_residual-in_err-serve.result c.from_residual-in_err-serve.ensures.1 in
    rw (p.1, p.2)
    (worked_stopped c.args.lines.now c.loop-line.line-index c.line-item.result c.loop-line.lane c.serve.new.self _ _ _ _ _ _ c.loop-line.invariant.0 c.loop-line.invariant.1 c.loop-line-test.true c.line-item.is
    c.texts_read_or_fail.ensures.either c.statements_read_or_fail.ensures.either c.in_err-serve.field-0.0 c.in_err-serve.ensures.does)

pub loop-line-preserved : goal.loop-line-preserved
loop-line-preserved g c =
    worked_more c.args.lines.now c.loop-line.line-index c.line-item.result c.loop-line.lane c.serve.new.self _ _ _ _ _ _ c.loop-line.invariant.0 c.loop-line.invariant.1 c.loop-line-test.true c.line-item.is
    c.in_ok-serve.field-0 c.in_ok-serve.ensures.does c.in_ok-serve.ensures.few
