use Rattle.std.proofs.Common.{refl, sym, ap, ◌∙◌}
use Rattle.script_text.specs.Blocks.{is_in_lane}
use Rattle.script_text.proofs.Standing.{text_stands}
use Rattle.script_text.proofs.blocks.Blocks.take_text.Goals as goal

pub returns-in_ok-add_text-in-Lane : goal.returns-in_ok-add_text-in-Lane
returns-in_ok-add_text-in-Lane c before stands = (
  sym (ap is_in_lane (sym stands.block ∙ c.in-Lane.is)),
  λ _. text_stands c.args.self.now _ before c.args.text stands c.in-Lane.is c.in_ok-add_text-in-Lane.ensures refl refl refl,
)
