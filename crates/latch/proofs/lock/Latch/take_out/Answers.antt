use Rattle.std.proofs.Common.{ℕ, List, ◌∷◌, Option, Some, sym, ap, ◌∙◌}
use Rattle.atomic_table.specs.Table.{rest}
use Rattle.latch.specs.Origin.{Origin}
use Rattle.latch.proofs.lock.Latch.take_out.Goals as goal

pub exchange-requires : goal.exchange-requires
exchange-requires g c = let held = c.requires.held in (
  c.requires.own ∙ sym (ap (λ (o : Origin g.row.T.Denot). o.table) c.self.view_is),
  (Some held.0, held.1 ∙ ap (λ (q : List (ℕ × Option g.row.T.Denot)). (0, Some held.0) ∷ rest q) (sym held.1)),
)
