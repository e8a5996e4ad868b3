use Rattle.std.proofs.Common.{◌≡◌, ◌+◌, ◌<◌, ap, arith, refl, sym, ◌∙◌}
use Rattle.std.proofs.lemmas.Result.{err_from_is_err_and}
use Rattle.machine.specs.declared.events.Event.TheVariants as event
use Rattle.machine.specs.Follows.{goes_on_rolling_back}
use Rattle.machine.specs.Laws.{steps_back_due}
use Rattle.roll_core.specs.Store.{meaning}
use Rattle.pgroll_top.specs.declared.lanes.Lane.{Lane}
use Rattle.pgroll_top.proofs.Advancing.{core_after}
use Rattle.pgroll_top.proofs.Repeating.{repeat_stopped, repeated, repeats_more}
use Rattle.pgroll_top.proofs.lanes.Lane.roll_back.Goals as goal

pub returns-in_err-tell-clause-does : goal.returns-in_err-tell-clause-does
returns-in_err-tell-clause-does g c =
    let p = err_from_is_err_and c.from_residual-in_err-tell.result c.from_residual-in_err-tell.ensures.1 in
    rw (p.1, p.2)
    (repeat_stopped event.Rollback goes_on_rolling_back c.args.self.now c.steps.self c.tell.new.self c.in_ok-reply.reply c.ddl.new.self _ _ _ _ _ _ c.steps.invariant.so_far.0 c.steps.invariant.so_far.1 c.in_ok-reply.ensures.step c.in_ok-reply.ensures.step refl c.in_err-tell.ensures.counted c.in_err-tell.field-0.0 c.in_err-tell.ensures.shows)

pub returns-in_err-tell-clause-few : goal.returns-in_err-tell-clause-few
returns-in_err-tell-clause-few g c =
    let counted : c.tell.new.self.number ≡ c.steps.self.number + 1 = ap (λ (lane : Lane). lane.number) c.in_err-tell.ensures.counted in
    omega (arith, counted, c.steps.invariant.room, (c.rolling_back_comes_to_an_end.ensures.few (meaning c.steps.self.core)).0)

pub returns-then-not-goes_on_rolling_back-clause-does : goal.returns-then-not-goes_on_rolling_back-clause-does
returns-then-not-goes_on_rolling_back-clause-does g c =
    repeated event.Rollback goes_on_rolling_back c.args.self.now c.steps.self c.tell.new.self c.in_ok-reply.reply c.ddl.new.self _ _ _ _ _ _ c.steps.invariant.so_far.0 c.steps.invariant.so_far.1 c.in_ok-reply.ensures.step c.in_ok-reply.ensures.step refl c.in_ok-tell.ensures.counted c.in_ok-tell.field-0 c.in_ok-tell.ensures.shows (sym c.goes_on_rolling_back.ensures ∙ c.if-not-goes_on_rolling_back.true)

pub returns-then-not-goes_on_rolling_back-clause-few : goal.returns-then-not-goes_on_rolling_back-clause-few
returns-then-not-goes_on_rolling_back-clause-few g c =
    let counted : c.tell.new.self.number ≡ c.steps.self.number + 1 = ap (λ (lane : Lane). lane.number) c.in_ok-tell.ensures.counted in
    omega (arith, counted, c.steps.invariant.room, (c.rolling_back_comes_to_an_end.ensures.few (meaning c.steps.self.core)).0)

pub steps-preserved : goal.steps-preserved
steps-preserved g c =
    let goes : goes_on_rolling_back c.in_ok-reply.reply ≡ _ = sym c.goes_on_rolling_back.ensures ∙ c.if-not-goes_on_rolling_back.false in
    let less = c.rolling_back_comes_to_an_end.ensures.fewer (meaning c.steps.self.core) c.in_ok-reply.reply (meaning c.ddl.new.self) c.in_ok-reply.ensures.step goes in
    let fewer = core_after (λ core. steps_back_due (meaning core) < steps_back_due (meaning c.steps.self.core)) c.steps.self c.tell.new.self c.ddl.new.self c.steps.self.path c.in_ok-reply.reply c.in_ok-tell.ensures.counted less in
    let counted : c.tell.new.self.number ≡ c.steps.self.number + 1 = ap (λ (lane : Lane). lane.number) c.in_ok-tell.ensures.counted in
    record {
      room = omega (arith, fewer, counted, c.steps.invariant.room);
      so_far = (_, repeats_more event.Rollback goes_on_rolling_back c.args.self.now c.steps.self c.tell.new.self c.in_ok-reply.reply c.ddl.new.self _ _ _ _ _ _ c.steps.invariant.so_far.0 c.steps.invariant.so_far.1 c.in_ok-reply.ensures.step c.in_ok-reply.ensures.step refl c.in_ok-tell.ensures.counted c.in_ok-tell.field-0 c.in_ok-tell.ensures.shows goes);
    }
