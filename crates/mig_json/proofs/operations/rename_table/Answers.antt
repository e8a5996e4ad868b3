use Rattle.std.proofs.Common.{[], refl}
use Rattle.serde_json.specs.View.{view}
use Rattle.mig_json.specs.Table as table
use Rattle.mig_json.proofs.Steps.{ReadAll, all_read, must_ok}
use Rattle.mig_json.proofs.operations.rename_table.Goals as goal

pub returns : goal.returns
returns c =
    let got : ReadAll table.rename_table.fields c.args.at [] (view c.args.operation.now) (c.in_ok-from.from, (c.in_ok-to.to, tt)) =
    (must_ok (c.in_ok-from.from) _ c.get.ensures c.in_ok-from.ensures
    (must_ok (c.in_ok-to.to) _ c.get-2.ensures c.in_ok-to.ensures all_read)) in
    (got.met, (_, got.are, refl))
