use Rattle.std.proofs.Common.{sym, ap, ◌∙◌, arith}
use Rattle.latch.specs.Origin.{Origin}
use Rattle.latch.proofs.Steps.{counts}
use Rattle.latch.proofs.lock.Latch.count.Goals as goal

pub fetch_add-requires : goal.fetch_add-requires
fetch_add-requires g c = let wide = c.self.invariant in let held = c.requires.held in (
  c.requires.own ∙ sym (ap (λ (o : Origin g.row.T.Denot). o.table) c.self.view_is),
  omega arith,
  counts g.T.Counted.list g.T.Counted.base g.T.Counted.actor _ _ _ _ _ held.0 c.requires.turn held.1 held.2 held.3 held.4,
)
