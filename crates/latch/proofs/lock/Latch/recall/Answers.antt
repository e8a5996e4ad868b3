use Rattle.std.proofs.Common.{sym, ap, ◌∙◌, arith}
use Rattle.latch.specs.Origin.{Origin}
use Rattle.latch.proofs.Ends.{recalls}
use Rattle.latch.proofs.lock.Latch.recall.Goals as goal

pub load-requires : goal.load-requires
load-requires g c = let wide = c.self.invariant in (
  c.requires.own ∙ sym (ap (λ (o : Origin g.row.T.Denot). o.table) c.self.view_is),
  omega arith,
  recalls g.T.Counted.list g.T.Counted.base g.T.Counted.actor _ _ _ _ c.requires.free.0,
)
