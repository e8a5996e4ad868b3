use Rattle.std.proofs.Common.{◌≡◌, ℕ, ◌+◌, ◌-◌, suc, length, sym, ap, ◌∙◌, arith, Option, length-append}
use Rattle.atomic_table.specs.Table.{Me}
use Rattle.latch.specs.declared.view.View.{View}
use Rattle.latch.specs.Origin.{Origin}
use Rattle.latch.proofs.Ends.{cuts}
use Rattle.latch.proofs.Lists.{length_upward}
use Rattle.latch.proofs.Deals.{all_places, none_new, is_new, one_more, cut_one, cut_rest, one_left}
use Rattle.latch.proofs.lock.Latch.deal.Goals as goal

pub loop-init : goal.loop-init
loop-init g c = let r = c.requires.room in let some_seat = c.requires.seats.0 in record {
  same = c.requires.whole.0;
  last = omega arith;
  long = ap length r.1;
  room = omega arith;
  mine = all_places g.T.Counted.base c.args.self.now (g.T.Counted.list c.args.self.now.first) c.args.seat.me (c.args.seats - 1 - 0) c.args.seats c.requires.whole.1 (omega arith);
  dealt = none_new g.T.Counted.base c.args.self.now (g.T.Counted.list c.args.self.now.first) c.args.all.items r.1;
}

pub split_seat-other-requires : goal.split_seat-other-requires
split_seat-other-requires g c = let wide = c.self.invariant in let i = c.loop.invariant in let lt = c.loop-test.true in
    let M : Type 0 = Me (Option g.row.T.Denot) (View g.row.T-Base.Denot g.row.T-Item.Denot) in
    let n : ℕ = c.loop.counter in let m : ℕ = c.args.seats - 1 - n in
    let long : length c.loop.seat.me.0.places ≡ suc m = ap (λ (q : M). length q.0.places) i.mine ∙ length_upward n (suc m) in (
      i.same ∙ sym (ap (λ (o : Origin g.row.T.Denot). o.table) c.self.view_is),
      omega arith,
      cuts g.T.Counted.list g.T.Counted.base g.T.Counted.actor _ _ _ (ap (λ (q : M). q.0.stage) i.mine) (omega arith) (ap (λ (q : M). q.0.parts) i.mine),
    )

pub loop-preserved : goal.loop-preserved
loop-preserved g c = let i = c.loop.invariant in let lt = c.loop-test.true in let did = c.split_seat-other.ensures in let put = c.push_reserved.ensures in
    let b = g.T.Counted.base in let o = c.args.self.now in let log = g.T.Counted.list o.first in
    let n : ℕ = c.loop.counter in let m : ℕ = c.args.seats - 1 - n in record {
      same = did.0 ∙ i.same;
      last = i.last;
      long = ap length put.items ∙ (length-append c.loop.all.items _ ∙ ap (λ (k : ℕ). k + 1) i.long);
      room = (let r = i.room in let e = put.capacity in omega arith);
      mine = cut_rest b o log c.loop.seat.me _ n m (c.args.seats - 1 - (n + 1)) i.mine did.2 (omega arith);
      dealt = one_more b o log n c.loop.all.items _ c.split_seat-other.result i.long i.dealt put.items (is_new b o log n c.split_seat-other.result (did.3 ∙ i.same) (cut_one b o log c.loop.seat.me _ n m i.mine did.4));
    }

pub returns : goal.returns
returns g c = let i = c.loop.invariant in let ge = c.loop-test.false in let put = c.push_reserved-2.ensures in let last = i.last in let up = c.loop.auto.counter-end in
    let b = g.T.Counted.base in let o = c.args.self.now in let log = g.T.Counted.list o.first in
    let n : ℕ = c.loop.counter in let m : ℕ = c.args.seats - 1 - n in record {
      long = ap length put.items ∙ (length-append c.loop.all.items _ ∙ (let l = i.long in let s = c.requires.seats.1 in omega arith));
      each = one_more b o log n c.loop.all.items _ c.loop.seat i.long i.dealt put.items (is_new b o log n c.loop.seat i.same (one_left b o log c.loop.seat.me n m i.mine (omega arith)));
    }
