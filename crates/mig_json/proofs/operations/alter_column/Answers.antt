use Rattle.std.proofs.Common.{◌≡◌, ◌∙◌, ap, Err, [], option_map, Option, List, ℕ}
use Rattle.sql_base.specs.declared.shapes.Check.{Check}
use Rattle.mig_lens.specs.declared.migrations.Op.TheVariants as op
use Rattle.std.proofs.lemmas.Result.{err_from_is_err_and}
use Rattle.serde_json.specs.View.{view}
use Rattle.mig_json.specs.Table as table
use Rattle.mig_json.proofs.Steps.{ReadAll, FailsIn, all_read, may_fails, may_later, may_ok, must_later, must_ok}
use Rattle.mig_json.proofs.operations.alter_column.Goals as goal

pub returns-in_err-ty : goal.returns-in_err-ty
returns-in_err-ty c =
    let p = err_from_is_err_and c.from_residual-in_err-ty.result c.from_residual-in_err-ty.ensures.1 in
    let e : c.from_residual-in_err-ty.result ≡ Err c.in_err-ty.field-0.0 = p.1 ∙ ap Err p.2 in
    rw e (λ h. let it : FailsIn table.alter_column.fields c.args.at [] (view c.args.operation.now) c.in_err-ty.field-0.0 =
    (must_later _ c.get.ensures c.in_ok-table.ensures.0 (must_later _ c.get-2.ensures c.in_ok-column.ensures.0 (may_fails _ c.get-3.ensures (c.in_err-ty.ensures h)))) in it.unmet)

pub returns-in_err-nullable : goal.returns-in_err-nullable
returns-in_err-nullable c =
    let p = err_from_is_err_and c.from_residual-in_err-nullable.result c.from_residual-in_err-nullable.ensures.1 in
    let e : c.from_residual-in_err-nullable.result ≡ Err c.in_err-nullable.field-0.0 = p.1 ∙ ap Err p.2 in
    rw e (λ h. let it : FailsIn table.alter_column.fields c.args.at [] (view c.args.operation.now) c.in_err-nullable.field-0.0 =
    (must_later _ c.get.ensures c.in_ok-table.ensures.0 (must_later _ c.get-2.ensures c.in_ok-column.ensures.0 (may_later _ c.get-3.ensures c.in_ok-ty.ensures.0 (may_fails _ c.get-4.ensures (c.in_err-nullable.ensures h))))) in it.unmet)

pub returns-in_err-default : goal.returns-in_err-default
returns-in_err-default c =
    let p = err_from_is_err_and c.from_residual-in_err-default.result c.from_residual-in_err-default.ensures.1 in
    let e : c.from_residual-in_err-default.result ≡ Err c.in_err-default.field-0.0 = p.1 ∙ ap Err p.2 in
    rw e (λ h. let it : FailsIn table.alter_column.fields c.args.at [] (view c.args.operation.now) c.in_err-default.field-0.0 =
    (must_later _ c.get.ensures c.in_ok-table.ensures.0 (must_later _ c.get-2.ensures c.in_ok-column.ensures.0 (may_later _ c.get-3.ensures c.in_ok-ty.ensures.0 (may_later _ c.get-4.ensures c.in_ok-nullable.ensures.0 (may_fails _ c.get-5.ensures (c.in_err-default.ensures h)))))) in it.unmet)

pub returns-in_err-unique : goal.returns-in_err-unique
returns-in_err-unique c =
    let p = err_from_is_err_and c.from_residual-in_err-unique.result c.from_residual-in_err-unique.ensures.1 in
    let e : c.from_residual-in_err-unique.result ≡ Err c.in_err-unique.field-0.0 = p.1 ∙ ap Err p.2 in
    rw e (λ h. let it : FailsIn table.alter_column.fields c.args.at [] (view c.args.operation.now) c.in_err-unique.field-0.0 =
    (must_later _ c.get.ensures c.in_ok-table.ensures.0 (must_later _ c.get-2.ensures c.in_ok-column.ensures.0 (may_later _ c.get-3.ensures c.in_ok-ty.ensures.0 (may_later _ c.get-4.ensures c.in_ok-nullable.ensures.0 (may_later _ c.get-5.ensures c.in_ok-default.ensures.0 (may_fails _ c.get-6.ensures (c.in_err-unique.ensures h))))))) in it.unmet)

pub returns-in_err-check : goal.returns-in_err-check
returns-in_err-check c =
    let p = err_from_is_err_and c.from_residual-in_err-check.result c.from_residual-in_err-check.ensures.1 in
    let e : c.from_residual-in_err-check.result ≡ Err c.in_err-check.field-0.0 = p.1 ∙ ap Err p.2 in
    rw e (λ h. let it : FailsIn table.alter_column.fields c.args.at [] (view c.args.operation.now) c.in_err-check.field-0.0 =
    (must_later _ c.get.ensures c.in_ok-table.ensures.0 (must_later _ c.get-2.ensures c.in_ok-column.ensures.0 (may_later _ c.get-3.ensures c.in_ok-ty.ensures.0 (may_later _ c.get-4.ensures c.in_ok-nullable.ensures.0 (may_later _ c.get-5.ensures c.in_ok-default.ensures.0 (may_later _ c.get-6.ensures c.in_ok-unique.ensures.0 (may_fails _ c.get-7.ensures (c.in_err-check.ensures h)))))))) in it.unmet)

pub returns-in_err-up : goal.returns-in_err-up
returns-in_err-up c =
    let p = err_from_is_err_and c.from_residual-in_err-up.result c.from_residual-in_err-up.ensures.1 in
    let e : c.from_residual-in_err-up.result ≡ Err c.in_err-up.field-0.0 = p.1 ∙ ap Err p.2 in
    rw e (λ h. let it : FailsIn table.alter_column.fields c.args.at [] (view c.args.operation.now) c.in_err-up.field-0.0 =
    (must_later _ c.get.ensures c.in_ok-table.ensures.0 (must_later _ c.get-2.ensures c.in_ok-column.ensures.0 (may_later _ c.get-3.ensures c.in_ok-ty.ensures.0 (may_later _ c.get-4.ensures c.in_ok-nullable.ensures.0 (may_later _ c.get-5.ensures c.in_ok-default.ensures.0 (may_later _ c.get-6.ensures c.in_ok-unique.ensures.0 (may_later _ c.get-7.ensures c.in_ok-check.ensures.0 (may_fails _ c.get-8.ensures (c.in_err-up.ensures h))))))))) in it.unmet)

pub returns-in_err-down : goal.returns-in_err-down
returns-in_err-down c =
    let p = err_from_is_err_and c.from_residual-in_err-down.result c.from_residual-in_err-down.ensures.1 in
    let e : c.from_residual-in_err-down.result ≡ Err c.in_err-down.field-0.0 = p.1 ∙ ap Err p.2 in
    rw e (λ h. let it : FailsIn table.alter_column.fields c.args.at [] (view c.args.operation.now) c.in_err-down.field-0.0 =
    (must_later _ c.get.ensures c.in_ok-table.ensures.0 (must_later _ c.get-2.ensures c.in_ok-column.ensures.0 (may_later _ c.get-3.ensures c.in_ok-ty.ensures.0 (may_later _ c.get-4.ensures c.in_ok-nullable.ensures.0 (may_later _ c.get-5.ensures c.in_ok-default.ensures.0 (may_later _ c.get-6.ensures c.in_ok-unique.ensures.0 (may_later _ c.get-7.ensures c.in_ok-check.ensures.0 (may_later _ c.get-8.ensures c.in_ok-up.ensures.0 (may_fails _ c.get-9.ensures (c.in_err-down.ensures h)))))))))) in it.unmet)

pub returns : goal.returns
returns c =
    let got : ReadAll table.alter_column.fields c.args.at [] (view c.args.operation.now) (c.in_ok-table.table, (c.in_ok-column.column, (c.in_ok-ty.ty, (c.in_ok-nullable.nullable, (c.in_ok-default.default, (c.in_ok-unique.ensures.1.0, (c.in_ok-check.ensures.1.0, (c.in_ok-up.up, (c.in_ok-down.down, tt))))))))) =
    (must_ok (c.in_ok-table.table) _ c.get.ensures c.in_ok-table.ensures
    (must_ok (c.in_ok-column.column) _ c.get-2.ensures c.in_ok-column.ensures
    (may_ok (c.in_ok-ty.ty) _ c.get-3.ensures c.in_ok-ty.ensures
    (may_ok (c.in_ok-nullable.nullable) _ c.get-4.ensures c.in_ok-nullable.ensures
    (may_ok (c.in_ok-default.default) _ c.get-5.ensures c.in_ok-default.ensures
    (may_ok (c.in_ok-unique.ensures.1.0) _ c.get-6.ensures (c.in_ok-unique.ensures.0, c.in_ok-unique.ensures.1.1)
    (may_ok (c.in_ok-check.ensures.1.0) _ c.get-7.ensures (c.in_ok-check.ensures.0, c.in_ok-check.ensures.1.1)
    (may_ok (c.in_ok-up.up) _ c.get-8.ensures c.in_ok-up.ensures
    (may_ok (c.in_ok-down.down) _ c.get-9.ensures c.in_ok-down.ensures all_read))))))))) in
    let unique = ap (λ (x : Option (List ℕ)). op.AlterColumn c.in_ok-table.table c.in_ok-column.column c.in_ok-ty.ty c.in_ok-nullable.nullable c.in_ok-default.default x c.in_ok-check.check c.in_ok-up.up c.in_ok-down.down) c.in_ok-unique.ensures.1.2 in
    let check = ap (λ (x : Option Check). op.AlterColumn c.in_ok-table.table c.in_ok-column.column c.in_ok-ty.ty c.in_ok-nullable.nullable c.in_ok-default.default (option_map (λ zs. zs.0) c.in_ok-unique.ensures.1.0) x c.in_ok-up.up c.in_ok-down.down) c.in_ok-check.ensures.1.2 in
    (got.met, (_, got.are, unique ∙ check))
