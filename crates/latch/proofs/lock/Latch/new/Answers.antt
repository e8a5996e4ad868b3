use Rattle.std.proofs.Common.{◌≡◌, List, [], ◌∷◌, ◌++◌, sym, ap, ◌∙◌, subst, arith, Option, Some}
use Rattle.atomic_table.specs.Table.{opening}
use Rattle.latch.specs.Lists.{upward}
use Rattle.latch.specs.Rule.{InTurn}
use Rattle.latch.specs.Views.{fresh}
use Rattle.latch.proofs.Ends.{opens}
use Rattle.latch.proofs.lock.Latch.new.Goals as goal

pub new-requires : goal.new-requires
new-requires g c =
    let r = c.ranges.seats.fits in
    let items : c.push_reserved.new.self.items ≡ Some c.args.value ∷ [] = c.push_reserved.ensures.items ∙ ap (λ (l : List (Option g.row.T.Denot)). l ++ Some c.args.value ∷ []) (c.reserve.ensures.items ∙ c.new-slots.ensures.items) in
    subst (λ (z : List (Option g.row.T.Denot) × g.row.T.Denot). InTurn g.T.Counted.list g.T.Counted.base g.T.Counted.actor c.args.seats (opening (0 ∷ 0 ∷ c.entries-entries.result ∷ []) z.0 (fresh (g.T.Counted.list z.1) (g.T.Counted.base z.1) (upward 0 c.args.seats))))
    (λ i. (sym items i, sym c.of.ensures i))
    (opens g.T.Counted.list g.T.Counted.base g.T.Counted.actor c.args.seats c.args.value c.entries-entries.result c.entries-entries.ensures c.requires (omega arith))
