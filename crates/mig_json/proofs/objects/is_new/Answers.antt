use Rattle.std.proofs.Common.{not, ap, ◌∙◌}
use Rattle.serde_json.specs.View.{view}
use Rattle.mig_json.proofs.Elements.{new_of}
use Rattle.mig_json.proofs.objects.is_new.Goals as goal

pub returns : goal.returns
returns c = ap not c.stands_in.ensures ∙ new_of (view c.args.item.now) c.args.text.now c.args.before.now c.requires
