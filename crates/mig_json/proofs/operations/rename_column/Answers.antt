use Rattle.std.proofs.Common.{◌≡◌, ◌∙◌, ap, Err, [], refl}
use Rattle.std.proofs.lemmas.Result.{err_from_is_err_and}
use Rattle.serde_json.specs.View.{view}
use Rattle.mig_json.specs.Table as table
use Rattle.mig_json.proofs.Steps.{ReadAll, FailsIn, all_read, must_fails, must_later, must_ok}
use Rattle.mig_json.proofs.operations.rename_column.Goals as goal

pub returns-in_err-to : goal.returns-in_err-to
returns-in_err-to c =
    let p = err_from_is_err_and c.from_residual-in_err-to.result c.from_residual-in_err-to.ensures.1 in
    let e : c.from_residual-in_err-to.result ≡ Err c.in_err-to.field-0.0 = p.1 ∙ ap Err p.2 in
    rw e (λ h. let it : FailsIn table.rename_column.fields c.args.at [] (view c.args.operation.now) c.in_err-to.field-0.0 =
    (must_later _ c.get.ensures c.in_ok-table.ensures.0 (must_later _ c.get-2.ensures c.in_ok-from.ensures.0 (must_fails _ c.get-3.ensures (c.in_err-to.ensures h)))) in it.unmet)

pub returns : goal.returns
returns c =
    let got : ReadAll table.rename_column.fields c.args.at [] (view c.args.operation.now) (c.in_ok-table.table, (c.in_ok-from.from, (c.in_ok-to.to, tt))) =
    (must_ok (c.in_ok-table.table) _ c.get.ensures c.in_ok-table.ensures
    (must_ok (c.in_ok-from.from) _ c.get-2.ensures c.in_ok-from.ensures
    (must_ok (c.in_ok-to.to) _ c.get-3.ensures c.in_ok-to.ensures all_read))) in
    (got.met, (_, got.are, refl))
