use Rattle.std.proofs.Common.{◌≡◌, ℕ, ◌+◌, List, length, Err, sym, ◌∙◌, ap, subst, arith}
use Rattle.std.proofs.lemmas.Result.{err_from_is_err_and}
use Rattle.serde_json.specs.Data.{Data}
use Rattle.serde_json.specs.View.{view}
use Rattle.mig_lens.specs.declared.migrations.ColumnDef.{ColumnDef}
use Rattle.mig_json.specs.Demand.{Demand, AreMet, FirstUnmet}
use Rattle.mig_json.specs.Kind as kind
use Rattle.mig_json.specs.Kind.{demands, element_path}
use Rattle.mig_json.specs.Table as table
use Rattle.mig_json.proofs.Loops.{Read, seen_length, more, fails}
use Rattle.mig_json.proofs.objects.read_columns.Goals as goal

abbrev each : ℕ → List ℕ → List Data → Data → List Demand
each at path before e = demands (kind.object table.column) at (element_path path (length before)) e

pub returns-in_err-column_at : goal.returns-in_err-column_at
returns-in_err-column_at c =
    let p = err_from_is_err_and c.from_residual.result c.from_residual.ensures.1 in
    let e : c.from_residual.result ≡ Err c.in_err-column_at.field-0.0 = p.1 ∙ ap Err p.2 in
    let place = seen_length c.loop-j.j c.args.items.now (omega (arith, c.loop-j-test.true)) in
    let P : ℕ → Type 0 = λ n. FirstUnmet (demands (kind.object table.column) c.args.at (element_path c.args.path.now n) (view c.index-items-j.result)) c.in_err-column_at.field-0.0 in
    rw e (λ h. fails (each c.args.at c.args.path.now) (λ before. table.IsColumn) c.args.items.now c.loop-j.j c.index-items-j.result c.loop-j.columns c.in_err-column_at.field-0.0 c.loop-j-test.true c.index-items-j.is c.loop-j.invariant (subst P (sym place) (c.in_err-column_at.ensures h)))

pub loop-j-preserved : goal.loop-j-preserved
loop-j-preserved c =
    let x = c.in_ok-column_at.field-0 in
    let place = seen_length c.loop-j.j c.args.items.now (omega (arith, c.loop-j-test.true)) in
    let P : List ColumnDef → Type 0 = λ xs. Read (each c.args.at c.args.path.now) (λ before. table.IsColumn) (c.loop-j.j + 1) c.args.items.now xs in
    let Q : ℕ → Type 0 = λ n. AreMet (demands (kind.object table.column) c.args.at (element_path c.args.path.now n) (view c.index-items-j.result)) × table.IsColumn (view c.index-items-j.result) x in
    subst P (sym c.in_ok-push.ensures.ok)
    (more (each c.args.at c.args.path.now) (λ before. table.IsColumn) c.args.items.now c.loop-j.j c.index-items-j.result c.loop-j.columns x c.loop-j-test.true c.index-items-j.is c.loop-j.invariant (subst Q (sym place) c.in_ok-column_at.ensures))
