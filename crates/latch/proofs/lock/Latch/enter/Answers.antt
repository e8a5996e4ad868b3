use Rattle.std.proofs.Common.{sym, ap, ◌∙◌, arith}
use Rattle.latch.specs.declared.view.View.{View}
use Rattle.latch.specs.Origin.{Origin}
use Rattle.latch.proofs.Steps.{draws, looks}
use Rattle.latch.proofs.lock.Latch.enter.Goals as goal

pub fetch_add-number-requires : goal.fetch_add-number-requires
fetch_add-number-requires g c = let wide = c.self.invariant in (
  c.requires.own.0 ∙ sym (ap (λ (o : Origin g.row.T.Denot). o.table) c.self.view_is),
  omega arith,
  draws g.T.Counted.list g.T.Counted.base g.T.Counted.actor _ _ _ _ c.requires.free.0,
)

pub load-serving-requires : goal.load-serving-requires
load-serving-requires g c = let wide = c.self.invariant in let i = c.loop.invariant in (
  i.0 ∙ c.requires.own.0 ∙ sym (ap (λ (o : Origin g.row.T.Denot). o.table) c.self.view_is),
  omega arith,
  looks g.T.Counted.list g.T.Counted.base g.T.Counted.actor _ _ _ _ (ap (λ (v : View g.row.T-Base.Denot g.row.T-Item.Denot). v.stage) i.3) wide.1,
)
