use Rattle.std.proofs.Common.{◌≡◌, ◌∙◌, ap, Err, []}
use Rattle.mig_lens.specs.declared.migrations.ColumnDef.{ColumnDef}
use Rattle.mig_lens.specs.declared.migrations.Op.TheVariants as op
use Rattle.std.proofs.lemmas.Result.{err_from_is_err_and}
use Rattle.serde_json.specs.View.{view}
use Rattle.mig_json.specs.Table as table
use Rattle.mig_json.proofs.Steps.{ReadAll, FailsIn, all_read, may_fails, may_ok, must_fails, must_later, must_ok}
use Rattle.mig_json.proofs.operations.add_column.Goals as goal

pub returns-in_err-column : goal.returns-in_err-column
returns-in_err-column c =
    let p = err_from_is_err_and c.from_residual-in_err-column.result c.from_residual-in_err-column.ensures.1 in
    let e : c.from_residual-in_err-column.result ≡ Err c.in_err-column.field-0.0 = p.1 ∙ ap Err p.2 in
    rw e (λ h. let it : FailsIn table.add_column.fields c.args.at [] (view c.args.operation.now) c.in_err-column.field-0.0 =
    (must_later _ c.get.ensures c.in_ok-table.ensures.0 (must_fails _ c.get-2.ensures (c.in_err-column.ensures h))) in it.unmet)

pub returns-in_err-up : goal.returns-in_err-up
returns-in_err-up c =
    let p = err_from_is_err_and c.from_residual-in_err-up.result c.from_residual-in_err-up.ensures.1 in
    let e : c.from_residual-in_err-up.result ≡ Err c.in_err-up.field-0.0 = p.1 ∙ ap Err p.2 in
    rw e (λ h. let it : FailsIn table.add_column.fields c.args.at [] (view c.args.operation.now) c.in_err-up.field-0.0 =
    (must_later _ c.get.ensures c.in_ok-table.ensures.0 (must_later _ c.get-2.ensures c.in_ok-column.ensures.0 (may_fails _ c.get-3.ensures (c.in_err-up.ensures h)))) in it.unmet)

pub returns : goal.returns
returns c =
    let got : ReadAll table.add_column.fields c.args.at [] (view c.args.operation.now) (c.in_ok-table.table, (c.in_ok-column.ensures.1.0, (c.in_ok-up.up, tt))) =
    (must_ok (c.in_ok-table.table) _ c.get.ensures c.in_ok-table.ensures
    (must_ok (c.in_ok-column.ensures.1.0) _ c.get-2.ensures (c.in_ok-column.ensures.0, c.in_ok-column.ensures.1.1)
    (may_ok (c.in_ok-up.up) _ c.get-3.ensures c.in_ok-up.ensures all_read))) in
    (got.met, (_, got.are, ap (λ (it : ColumnDef). op.AddColumn c.in_ok-table.table it c.in_ok-up.up) c.in_ok-column.ensures.1.2))
