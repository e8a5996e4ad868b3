use Rattle.std.proofs.Common.{◌∙◌, ◌+◌, ◌≤◌, length, length-take, length-drop, arith, sym, take, drop}
use Rattle.std.proofs.lemmas.List.{take-append-drop}
use Rattle.std.proofs.lemmas.Result.{err_from_is_err_and}
use Rattle.pg_io.specs.Laws.{appends_kept, appends_more, rose_since}
use Rattle.pg_io.proofs.Known.{take_step, rest_missing}
use Rattle.pg_io.proofs.whole.write_whole.Goals as goal

pub returns-in_err-written-clause-cut : goal.returns-in_err-written-clause-cut
returns-in_err-written-clause-cut g c =
    let p = err_from_is_err_and c.from_residual.result c.from_residual.ensures.1 in
    let later : g.K.Sink.faults c.args.out.now ≤ g.K.Sink.faults c.loop-written.out = omega (arith, c.loop-written.invariant.same) in
    rw p.1 (
    record {
      front = take c.loop-written.written c.args.bytes.now;
      missing = drop c.loop-written.written c.args.bytes.now;
      split = sym (take-append-drop c.loop-written.written c.args.bytes.now);
      some = rest_missing c.args.bytes.now c.loop-written.written c.loop-written-test.true;
      written = appends_kept _ _ _ _ c.loop-written.invariant.held c.in_err-written.ensures.bytes;
      failed = rose_since _ _ _ later c.in_err-written.ensures.cause.failed;
    }
    )

pub loop-written-preserved : goal.loop-written-preserved
loop-written-preserved g c =
    let bound = simp (length-take, length-drop) at c.in_ok-written.ensures.bound in
    let fits : c.loop-written.written + c.in_ok-written.field-0 ≤ length c.args.bytes.now = omega arith in record {
      within = fits;
      held = appends_more _ _ _ _ _ _ (take_step c.args.bytes.now c.loop-written.written c.in_ok-written.field-0 fits) c.loop-written.invariant.held c.in_ok-written.ensures.bytes;
      same = c.in_ok-written.ensures.cause.passed ∙ c.loop-written.invariant.same;
    }
