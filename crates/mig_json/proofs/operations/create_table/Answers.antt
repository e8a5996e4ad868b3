use Rattle.std.proofs.Common.{◌≡◌, ◌∙◌, ap, Err, [], List}
use Rattle.mig_lens.specs.declared.migrations.ColumnDef.{ColumnDef}
use Rattle.mig_lens.specs.declared.migrations.Op.TheVariants as op
use Rattle.std.proofs.lemmas.Result.{err_from_is_err_and}
use Rattle.serde_json.specs.View.{view}
use Rattle.mig_json.specs.Table as table
use Rattle.mig_json.proofs.Steps.{ReadAll, FailsIn, all_read, must_fails, must_later, must_ok}
use Rattle.mig_json.proofs.operations.create_table.Goals as goal

pub returns-in_err-columns : goal.returns-in_err-columns
returns-in_err-columns c =
    let p = err_from_is_err_and c.from_residual-in_err-columns.result c.from_residual-in_err-columns.ensures.1 in
    let e : c.from_residual-in_err-columns.result ≡ Err c.in_err-columns.field-0.0 = p.1 ∙ ap Err p.2 in
    rw e (λ h. let it : FailsIn table.create_table.fields c.args.at [] (view c.args.operation.now) c.in_err-columns.field-0.0 =
    (must_later _ c.get.ensures c.in_ok-name.ensures.0 (must_fails _ c.get-2.ensures (c.in_err-columns.ensures h))) in it.unmet)

pub returns : goal.returns
returns c =
    let got : ReadAll table.create_table.fields c.args.at [] (view c.args.operation.now) (c.in_ok-name.name, (c.in_ok-columns.ensures.1.0, tt)) =
    (must_ok (c.in_ok-name.name) _ c.get.ensures c.in_ok-name.ensures
    (must_ok (c.in_ok-columns.ensures.1.0) _ c.get-2.ensures (c.in_ok-columns.ensures.0, c.in_ok-columns.ensures.1.1) all_read)) in
    (got.met, (_, got.are, ap (λ (xs : List ColumnDef). op.CreateTable c.in_ok-name.name xs) c.in_ok-columns.ensures.1.2))
