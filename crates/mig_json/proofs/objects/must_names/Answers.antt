use Rattle.std.proofs.Common.{codes}
use Rattle.mig_json.specs.Demand.{inside}
use Rattle.serde_json.specs.View.{items_view}
use Rattle.mig_json.proofs.Arrays.{of_names}
use Rattle.mig_json.proofs.objects.must_names.Goals as goal

pub returns : goal.returns
returns c = of_names c.args.at (codes ".columns") (inside c.args.at (codes ".columns")) _ (items_view c.in-Some.items.now) _ (c.in-Some.ensures.0) (c.in-Some.ensures.1) c.read_names.ensures
