use Rattle.std.proofs.Common.{sym, ap, ◌∙◌, arith}
use Rattle.latch.specs.Origin.{Origin}
use Rattle.latch.proofs.Ends.{joins}
use Rattle.latch.proofs.lock.Latch.take_in.Goals as goal

pub join_seat-requires : goal.join_seat-requires
join_seat-requires g c =
    let wide = c.self.invariant in let here = sym (ap (λ (o : Origin g.row.T.Denot). o.table) c.self.view_is) in let free = c.requires.free in (
      c.requires.own.0 ∙ here,
      c.requires.own.1 ∙ here,
      free.1.1,
      omega arith,
      joins g.T.Counted.list g.T.Counted.base g.T.Counted.actor _ _ _ _ _ free.0.0 free.1.0,
    )
