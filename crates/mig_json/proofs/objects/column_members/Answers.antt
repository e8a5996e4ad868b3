use Rattle.std.proofs.Common.{◌≡◌, ◌∙◌, ap, Err, Option}
use Rattle.sql_base.specs.declared.shapes.Check.{Check}
use Rattle.std.proofs.lemmas.Result.{err_from_is_err_and}
use Rattle.serde_json.specs.View.{view}
use Rattle.mig_json.specs.Table as table
use Rattle.mig_json.proofs.Steps.{ReadAll, FailsIn, all_read, may_fails, may_later, may_ok, must_later, must_ok}
use Rattle.mig_json.proofs.objects.column_members.Goals as goal

pub returns-in_err-nullable : goal.returns-in_err-nullable
returns-in_err-nullable c =
    let p = err_from_is_err_and c.from_residual-in_err-nullable.result c.from_residual-in_err-nullable.ensures.1 in
    let e : c.from_residual-in_err-nullable.result ≡ Err c.in_err-nullable.field-0.0 = p.1 ∙ ap Err p.2 in
    rw e (λ h. let it : FailsIn table.column c.args.at c.args.path.now (view c.args.column.now) c.in_err-nullable.field-0.0 =
    (must_later _ c.get.ensures c.in_ok-name.ensures.0 (must_later _ c.get-2.ensures c.in_ok-ty.ensures.0 (may_fails _ c.get-3.ensures (c.in_err-nullable.ensures h)))) in it.unmet)

pub returns-in_err-pk : goal.returns-in_err-pk
returns-in_err-pk c =
    let p = err_from_is_err_and c.from_residual-in_err-pk.result c.from_residual-in_err-pk.ensures.1 in
    let e : c.from_residual-in_err-pk.result ≡ Err c.in_err-pk.field-0.0 = p.1 ∙ ap Err p.2 in
    rw e (λ h. let it : FailsIn table.column c.args.at c.args.path.now (view c.args.column.now) c.in_err-pk.field-0.0 =
    (must_later _ c.get.ensures c.in_ok-name.ensures.0 (must_later _ c.get-2.ensures c.in_ok-ty.ensures.0 (may_later _ c.get-3.ensures c.in_ok-nullable.ensures.0 (may_fails _ c.get-4.ensures (c.in_err-pk.ensures h))))) in it.unmet)

pub returns-in_err-unique : goal.returns-in_err-unique
returns-in_err-unique c =
    let p = err_from_is_err_and c.from_residual-in_err-unique.result c.from_residual-in_err-unique.ensures.1 in
    let e : c.from_residual-in_err-unique.result ≡ Err c.in_err-unique.field-0.0 = p.1 ∙ ap Err p.2 in
    rw e (λ h. let it : FailsIn table.column c.args.at c.args.path.now (view c.args.column.now) c.in_err-unique.field-0.0 =
    (must_later _ c.get.ensures c.in_ok-name.ensures.0 (must_later _ c.get-2.ensures c.in_ok-ty.ensures.0 (may_later _ c.get-3.ensures c.in_ok-nullable.ensures.0 (may_later _ c.get-4.ensures c.in_ok-pk.ensures.0 (may_fails _ c.get-5.ensures (c.in_err-unique.ensures h)))))) in it.unmet)

pub returns-in_err-default : goal.returns-in_err-default
returns-in_err-default c =
    let p = err_from_is_err_and c.from_residual-in_err-default.result c.from_residual-in_err-default.ensures.1 in
    let e : c.from_residual-in_err-default.result ≡ Err c.in_err-default.field-0.0 = p.1 ∙ ap Err p.2 in
    rw e (λ h. let it : FailsIn table.column c.args.at c.args.path.now (view c.args.column.now) c.in_err-default.field-0.0 =
    (must_later _ c.get.ensures c.in_ok-name.ensures.0 (must_later _ c.get-2.ensures c.in_ok-ty.ensures.0 (may_later _ c.get-3.ensures c.in_ok-nullable.ensures.0 (may_later _ c.get-4.ensures c.in_ok-pk.ensures.0 (may_later _ c.get-5.ensures c.in_ok-unique.ensures.0 (may_fails _ c.get-6.ensures (c.in_err-default.ensures h))))))) in it.unmet)

pub returns-in_err-check : goal.returns-in_err-check
returns-in_err-check c =
    let p = err_from_is_err_and c.from_residual-in_err-check.result c.from_residual-in_err-check.ensures.1 in
    let e : c.from_residual-in_err-check.result ≡ Err c.in_err-check.field-0.0 = p.1 ∙ ap Err p.2 in
    rw e (λ h. let it : FailsIn table.column c.args.at c.args.path.now (view c.args.column.now) c.in_err-check.field-0.0 =
    (must_later _ c.get.ensures c.in_ok-name.ensures.0 (must_later _ c.get-2.ensures c.in_ok-ty.ensures.0 (may_later _ c.get-3.ensures c.in_ok-nullable.ensures.0 (may_later _ c.get-4.ensures c.in_ok-pk.ensures.0 (may_later _ c.get-5.ensures c.in_ok-unique.ensures.0 (may_later _ c.get-6.ensures c.in_ok-default.ensures.0 (may_fails _ c.get-7.ensures (c.in_err-check.ensures h)))))))) in it.unmet)

pub returns : goal.returns
returns c =
    let got : ReadAll table.column c.args.at c.args.path.now (view c.args.column.now) (c.in_ok-name.name, (c.in_ok-ty.ty, (c.in_ok-nullable.nullable, (c.in_ok-pk.pk, (c.in_ok-unique.unique, (c.in_ok-default.default, (c.in_ok-check.ensures.1.0, tt))))))) =
    (must_ok (c.in_ok-name.name) _ c.get.ensures c.in_ok-name.ensures
    (must_ok (c.in_ok-ty.ty) _ c.get-2.ensures c.in_ok-ty.ensures
    (may_ok (c.in_ok-nullable.nullable) _ c.get-3.ensures c.in_ok-nullable.ensures
    (may_ok (c.in_ok-pk.pk) _ c.get-4.ensures c.in_ok-pk.ensures
    (may_ok (c.in_ok-unique.unique) _ c.get-5.ensures c.in_ok-unique.ensures
    (may_ok (c.in_ok-default.default) _ c.get-6.ensures c.in_ok-default.ensures
    (may_ok (c.in_ok-check.ensures.1.0) _ c.get-7.ensures (c.in_ok-check.ensures.0, c.in_ok-check.ensures.1.1) all_read))))))) in
    let made = c.column_with.ensures ∙ ap (λ (x : Option Check). table.column_with c.in_ok-name.name c.in_ok-ty.ty c.in_ok-nullable.nullable c.in_ok-pk.pk c.in_ok-unique.unique c.in_ok-default.default x) c.in_ok-check.ensures.1.2 in
    (got.met, (_, got.are, made))
