use Rattle.std.proofs.Common.{refl, sym, ap, ◌∙◌}
use Rattle.script_text.specs.Blocks.{is_in_control}
use Rattle.script_text.proofs.Standing.{command_stands}
use Rattle.script_text.proofs.blocks.Blocks.take_command.Goals as goal

pub returns-in_ok-push-in-Control : goal.returns-in_ok-push-in-Control
returns-in_ok-push-in-Control c before stands = (
  sym (ap is_in_control (sym stands.block ∙ c.in-Control.is)),
  λ _. command_stands c.args.self.now _ before c.args.command stands refl c.in_ok-push-in-Control.ensures.ok refl refl,
)
