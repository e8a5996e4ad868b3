use Rattle.std.proofs.Common.{◌≡◌, ◌∙◌, ap, Err, [], refl}
use Rattle.std.proofs.lemmas.Result.{err_from_is_err_and}
use Rattle.serde_json.specs.View.{view}
use Rattle.mig_json.specs.Table as table
use Rattle.mig_json.proofs.Steps.{ReadAll, FailsIn, all_read, may_fails, may_ok, must_later, must_ok}
use Rattle.mig_json.proofs.operations.drop_column.Goals as goal

pub returns-in_err-down : goal.returns-in_err-down
returns-in_err-down c =
    let p = err_from_is_err_and c.from_residual-in_err-down.result c.from_residual-in_err-down.ensures.1 in
    let e : c.from_residual-in_err-down.result ≡ Err c.in_err-down.field-0.0 = p.1 ∙ ap Err p.2 in
    rw e (λ h. let it : FailsIn table.drop_column.fields c.args.at [] (view c.args.operation.now) c.in_err-down.field-0.0 =
    (must_later _ c.get.ensures c.in_ok-table.ensures.0 (must_later _ c.get-2.ensures c.in_ok-column.ensures.0 (may_fails _ c.get-3.ensures (c.in_err-down.ensures h)))) in it.unmet)

pub returns : goal.returns
returns c =
    let got : ReadAll table.drop_column.fields c.args.at [] (view c.args.operation.now) (c.in_ok-table.table, (c.in_ok-column.column, (c.in_ok-down.down, tt))) =
    (must_ok (c.in_ok-table.table) _ c.get.ensures c.in_ok-table.ensures
    (must_ok (c.in_ok-column.column) _ c.get-2.ensures c.in_ok-column.ensures
    (may_ok (c.in_ok-down.down) _ c.get-3.ensures c.in_ok-down.ensures all_read))) in
    (got.met, (_, got.are, refl))
