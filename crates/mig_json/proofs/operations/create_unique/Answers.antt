use Rattle.std.proofs.Common.{◌≡◌, ◌∙◌, ap, Err, [], unwrap_or, List, None, ℕ}
use Rattle.sql_base.specs.declared.exprs.Expr.{Expr}
use Rattle.mig_lens.specs.declared.migrations.Op.TheVariants as op
use Rattle.std.proofs.lemmas.Result.{err_from_is_err_and}
use Rattle.serde_json.specs.View.{view}
use Rattle.mig_json.specs.Table as table
use Rattle.mig_json.proofs.Steps.{ReadAll, FailsIn, all_read, may_fails, may_later, may_ok, must_fails, must_later, must_ok, never_fails, never_later, never_ok}
use Rattle.mig_json.proofs.operations.create_unique.Goals as goal

pub returns-in_err-read_word : goal.returns-in_err-read_word
returns-in_err-read_word c =
    let p = err_from_is_err_and c.from_residual-in_err-read_word.result c.from_residual-in_err-read_word.ensures.1 in
    let e : c.from_residual-in_err-read_word.result ≡ Err c.in_err-read_word.field-0.0 = p.1 ∙ ap Err p.2 in
    rw e (λ h. let it : FailsIn table.create_unique.fields c.args.at [] (view c.args.operation.now) c.in_err-read_word.field-0.0 =
    (must_later _ c.get.ensures c.in_ok-table.ensures.0 (must_later _ c.get-2.ensures c.in_ok-name.ensures.0 (must_fails _ c.get-3.ensures (c.in_err-read_word.ensures h)))) in it.unmet)

pub returns-in_err-columns : goal.returns-in_err-columns
returns-in_err-columns c =
    let p = err_from_is_err_and c.from_residual-in_err-columns.result c.from_residual-in_err-columns.ensures.1 in
    let e : c.from_residual-in_err-columns.result ≡ Err c.in_err-columns.field-0.0 = p.1 ∙ ap Err p.2 in
    rw e (λ h. let it : FailsIn table.create_unique.fields c.args.at [] (view c.args.operation.now) c.in_err-columns.field-0.0 =
    (must_later _ c.get.ensures c.in_ok-table.ensures.0 (must_later _ c.get-2.ensures c.in_ok-name.ensures.0 (must_later _ c.get-3.ensures c.in_ok-read_word.ensures.0 (must_fails _ c.get-4.ensures (c.in_err-columns.ensures h))))) in it.unmet)

pub returns-in_err-read_none : goal.returns-in_err-read_none
returns-in_err-read_none c =
    let p = err_from_is_err_and c.from_residual-in_err-read_none.result c.from_residual-in_err-read_none.ensures.1 in
    let e : c.from_residual-in_err-read_none.result ≡ Err c.in_err-read_none.field-0.0 = p.1 ∙ ap Err p.2 in
    rw e (λ h. let it : FailsIn table.create_unique.fields c.args.at [] (view c.args.operation.now) c.in_err-read_none.field-0.0 =
    (must_later _ c.get.ensures c.in_ok-table.ensures.0 (must_later _ c.get-2.ensures c.in_ok-name.ensures.0 (must_later _ c.get-3.ensures c.in_ok-read_word.ensures.0 (must_later _ c.get-4.ensures c.in_ok-columns.ensures.0 (never_fails _ c.get-5.ensures (c.in_err-read_none.ensures h)))))) in it.unmet)

pub returns-in_err-up : goal.returns-in_err-up
returns-in_err-up c =
    let p = err_from_is_err_and c.from_residual-in_err-up.result c.from_residual-in_err-up.ensures.1 in
    let e : c.from_residual-in_err-up.result ≡ Err c.in_err-up.field-0.0 = p.1 ∙ ap Err p.2 in
    rw e (λ h. let it : FailsIn table.create_unique.fields c.args.at [] (view c.args.operation.now) c.in_err-up.field-0.0 =
    (must_later _ c.get.ensures c.in_ok-table.ensures.0 (must_later _ c.get-2.ensures c.in_ok-name.ensures.0 (must_later _ c.get-3.ensures c.in_ok-read_word.ensures.0 (must_later _ c.get-4.ensures c.in_ok-columns.ensures.0 (never_later _ c.get-5.ensures c.in_ok-read_none.ensures.1 (may_fails _ c.get-6.ensures (c.in_err-up.ensures h))))))) in it.unmet)

pub returns-in_err-down : goal.returns-in_err-down
returns-in_err-down c =
    let p = err_from_is_err_and c.from_residual-in_err-down.result c.from_residual-in_err-down.ensures.1 in
    let e : c.from_residual-in_err-down.result ≡ Err c.in_err-down.field-0.0 = p.1 ∙ ap Err p.2 in
    rw e (λ h. let it : FailsIn table.create_unique.fields c.args.at [] (view c.args.operation.now) c.in_err-down.field-0.0 =
    (must_later _ c.get.ensures c.in_ok-table.ensures.0 (must_later _ c.get-2.ensures c.in_ok-name.ensures.0 (must_later _ c.get-3.ensures c.in_ok-read_word.ensures.0 (must_later _ c.get-4.ensures c.in_ok-columns.ensures.0 (never_later _ c.get-5.ensures c.in_ok-read_none.ensures.1 (may_later _ c.get-6.ensures c.in_ok-up.ensures.0 (may_fails _ c.get-7.ensures (c.in_err-down.ensures h)))))))) in it.unmet)

pub returns : goal.returns
returns c =
    let got : ReadAll table.create_unique.fields c.args.at [] (view c.args.operation.now) (c.in_ok-table.table, (c.in_ok-name.name, (tt, (c.in_ok-columns.columns, (c.in_ok-up.up, (c.in_ok-down.down, tt)))))) =
    (must_ok (c.in_ok-table.table) _ c.get.ensures c.in_ok-table.ensures
    (must_ok (c.in_ok-name.name) _ c.get-2.ensures c.in_ok-name.ensures
    (must_ok (tt) _ c.get-3.ensures c.in_ok-read_word.ensures
    (must_ok (c.in_ok-columns.columns) _ c.get-4.ensures c.in_ok-columns.ensures
    (never_ok _ c.get-5.ensures c.in_ok-read_none.ensures.1
    (may_ok (c.in_ok-up.up) _ c.get-6.ensures c.in_ok-up.ensures
    (may_ok (c.in_ok-down.down) _ c.get-7.ensures c.in_ok-down.ensures all_read))))))) in
    let up = ap (λ (x : List (List ℕ × Expr)). op.CreateConstraint c.in_ok-table.table c.in_ok-name.name c.in_ok-columns.columns None x c.pairs_or_none-2.result) c.pairs_or_none.ensures in
    let down = ap (λ (x : List (List ℕ × Expr)). op.CreateConstraint c.in_ok-table.table c.in_ok-name.name c.in_ok-columns.columns None (unwrap_or c.in_ok-up.up []) x) c.pairs_or_none-2.ensures in
    (got.met, (_, got.are, up ∙ down))
