use Rattle.std.proofs.Common.{refl}
use Rattle.serde_json.specs.View.{view}
use Rattle.mig_json.specs.Table as table
use Rattle.mig_json.proofs.Steps.{ReadAll, all_read, must_ok}
use Rattle.mig_json.proofs.objects.check_members.Goals as goal

pub returns : goal.returns
returns c =
    let got : ReadAll table.check c.args.at c.args.path.now (view c.args.check.now) (c.in_ok-name.name, (c.in_ok-expr.expr, tt)) =
    (must_ok (c.in_ok-name.name) _ c.get.ensures c.in_ok-name.ensures
    (must_ok (c.in_ok-expr.expr) _ c.get-2.ensures c.in_ok-expr.ensures all_read)) in
    (got.met, (_, got.are, refl))
