use Rattle.std.proofs.Common.{refl, sym, ap, not, ◌∙◌}
use Rattle.script_text.proofs.Standing.{control_stands}
use Rattle.script_text.proofs.blocks.Blocks.take_control.Goals as goal

pub returns : goal.returns
returns c before stands = (ap not (sym c.if-self.false ∙ stands.has_control), λ _. control_stands c.args.self.now _ before stands refl refl refl refl)
