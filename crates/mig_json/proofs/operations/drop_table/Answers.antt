use Rattle.std.proofs.Common.{[], refl}
use Rattle.serde_json.specs.View.{view}
use Rattle.mig_json.specs.Table as table
use Rattle.mig_json.proofs.Steps.{ReadAll, all_read, must_ok}
use Rattle.mig_json.proofs.operations.drop_table.Goals as goal

pub returns : goal.returns
returns c =
    let got : ReadAll table.drop_table.fields c.args.at [] (view c.args.operation.now) (c.in_ok-name.name, tt) =
    (must_ok (c.in_ok-name.name) _ c.get.ensures c.in_ok-name.ensures all_read) in
    (got.met, (_, got.are, refl))
