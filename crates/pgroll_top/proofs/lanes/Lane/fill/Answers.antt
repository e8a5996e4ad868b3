use Rattle.std.proofs.Common.{◌≡◌, ◌+◌, ◌<◌, ap, arith, refl, sym, ◌∙◌, []}
use Rattle.std.proofs.lemmas.Result.{err_from_is_err_and}
use Rattle.machine.specs.declared.events.Event.TheVariants as event
use Rattle.machine.specs.Follows.{goes_on_filling}
use Rattle.machine.specs.Laws.{unfilled_rows}
use Rattle.machine.specs.Standing.{IsState}
use Rattle.roll_core.specs.Store.{meaning}
use Rattle.pgroll_top.specs.declared.lanes.Lane.{Lane}
use Rattle.pgroll_top.proofs.Advancing.{core_after}
use Rattle.pgroll_top.proofs.Repeating.{repeat_stopped, repeated, repeats_more, repeats_none}
use Rattle.pgroll_top.proofs.lanes.Lane.fill.Goals as goal

pub batches-init : goal.batches-init
batches-init g c = record {
  stands = c.requires.stands;
  room = omega (arith, c.batches_come_to_an_end.ensures.few (meaning c.args.self.now.core) c.requires.stands);
  so_far = ([], repeats_none (event.Fill 1000) goes_on_filling c.args.self.now (g.K.Sink.held c.args.out.now) (g.K.Sink.faults c.args.out.now));
}

pub returns-in_err-tell-clause-does : goal.returns-in_err-tell-clause-does
returns-in_err-tell-clause-does g c =
    let p = err_from_is_err_and c.from_residual.result c.from_residual.ensures.1 in
    rw (p.1, p.2)
    (repeat_stopped (event.Fill 1000) goes_on_filling c.args.self.now c.batches.self c.tell.new.self c.batch-reply.result c.batch-reply.new.self _ _ _ _ _ _ c.batches.invariant.so_far.0 c.batches.invariant.so_far.1 c.batch-reply.ensures.machine c.batch-reply.ensures.step refl c.in_err-tell.ensures.counted c.in_err-tell.field-0.0 c.in_err-tell.ensures.shows)

pub returns-then-not-goes_on_filling-clause-does : goal.returns-then-not-goes_on_filling-clause-does
returns-then-not-goes_on_filling-clause-does g c =
    repeated (event.Fill 1000) goes_on_filling c.args.self.now c.batches.self c.tell.new.self c.batch-reply.result c.batch-reply.new.self _ _ _ _ _ _ c.batches.invariant.so_far.0 c.batches.invariant.so_far.1 c.batch-reply.ensures.machine c.batch-reply.ensures.step refl c.in_ok-tell.ensures.counted c.in_ok-tell.field-0 c.in_ok-tell.ensures.shows (sym c.goes_on_filling.ensures ∙ c.if-not-goes_on_filling.true)

pub batches-smaller-else-not-goes_on_filling-5 : goal.batches-smaller-else-not-goes_on_filling-5
batches-smaller-else-not-goes_on_filling-5 g c =
    let fewer = c.batches_come_to_an_end.ensures.fewer (meaning c.batches.self.core) 1000 c.batch-reply.result (meaning c.batch-reply.new.self) c.batch-reply.ensures.machine c.batches.invariant.stands (sym c.goes_on_filling.ensures ∙ c.if-not-goes_on_filling.false) in
    core_after (λ core. unfilled_rows (meaning core) < unfilled_rows (meaning c.batches.self.core)) c.batches.self c.tell.new.self c.batch-reply.new.self c.batches.self.path c.batch-reply.result c.in_ok-tell.ensures.counted fewer

pub batches-preserved-else-not-goes_on_filling-5 : goal.batches-preserved-else-not-goes_on_filling-5
batches-preserved-else-not-goes_on_filling-5 g c =
    let goes : goes_on_filling c.batch-reply.result ≡ _ = sym c.goes_on_filling.ensures ∙ c.if-not-goes_on_filling.false in
    let fewer = c.batches_come_to_an_end.ensures.fewer (meaning c.batches.self.core) 1000 c.batch-reply.result (meaning c.batch-reply.new.self) c.batch-reply.ensures.machine c.batches.invariant.stands goes in
    let stands = c.states_stand.ensures.steps (meaning c.batches.self.core) (event.Fill 1000) c.batch-reply.result (meaning c.batch-reply.new.self) c.batch-reply.ensures.machine c.batches.invariant.stands in
    let after = core_after (λ core. IsState (meaning core) × (unfilled_rows (meaning core) < unfilled_rows (meaning c.batches.self.core))) c.batches.self c.tell.new.self c.batch-reply.new.self c.batches.self.path c.batch-reply.result c.in_ok-tell.ensures.counted (stands, fewer) in
    let counted : c.tell.new.self.number ≡ c.batches.self.number + 1 = ap (λ (lane : Lane). lane.number) c.in_ok-tell.ensures.counted in
    record {
      stands = after.0;
      room = omega (arith, after.1, counted, c.batches.invariant.room);
      so_far = (_, repeats_more (event.Fill 1000) goes_on_filling c.args.self.now c.batches.self c.tell.new.self c.batch-reply.result c.batch-reply.new.self _ _ _ _ _ _ c.batches.invariant.so_far.0 c.batches.invariant.so_far.1 c.batch-reply.ensures.machine c.batch-reply.ensures.step refl c.in_ok-tell.ensures.counted c.in_ok-tell.field-0 c.in_ok-tell.ensures.shows goes);
    }
