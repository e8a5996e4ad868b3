use Rattle.std.proofs.Common.{◌≡◌, ℕ, ◌+◌, List, Err, sym, ◌∙◌, ap, subst, arith}
use Rattle.std.proofs.lemmas.Result.{err_from_is_err_and}
use Rattle.serde_json.specs.View.{view}
use Rattle.mig_lens.specs.declared.migrations.Op.{Op}
use Rattle.mig_json.specs.Demand.{AreMet, FirstUnmet}
use Rattle.mig_json.specs.Migration.{IsOperation}
use Rattle.mig_json.specs.Reading.{asked, asked_demands, operation_demands}
use Rattle.mig_json.proofs.Loops.{Read, seen_length, more, fails}
use Rattle.mig_json.proofs.reading.read_operations.Goals as goal

pub returns-in_err-read_operation : goal.returns-in_err-read_operation
returns-in_err-read_operation c =
    let p = err_from_is_err_and c.from_residual.result c.from_residual.ensures.1 in
    let e : c.from_residual.result ≡ Err c.in_err-read_operation.field-0.0 = p.1 ∙ ap Err p.2 in
    let place = seen_length c.loop-at.at c.args.items.now (omega (arith, c.loop-at-test.true)) in
    let P : ℕ → Type 0 = λ n. FirstUnmet (asked_demands n (asked (view c.index-items-at.result))) c.in_err-read_operation.field-0.0 in
    rw e (λ h. fails operation_demands (λ before. IsOperation) c.args.items.now c.loop-at.at c.index-items-at.result c.loop-at.operations c.in_err-read_operation.field-0.0 c.loop-at-test.true c.index-items-at.is c.loop-at.invariant (subst P (sym place) (c.in_err-read_operation.ensures h)))

pub loop-at-preserved : goal.loop-at-preserved
loop-at-preserved c =
    let x = c.in_ok-read_operation.field-0 in
    let place = seen_length c.loop-at.at c.args.items.now (omega (arith, c.loop-at-test.true)) in
    let P : List Op → Type 0 = λ xs. Read operation_demands (λ before. IsOperation) (c.loop-at.at + 1) c.args.items.now xs in
    let Q : ℕ → Type 0 = λ n. AreMet (asked_demands n (asked (view c.index-items-at.result))) × IsOperation (view c.index-items-at.result) x in
    subst P (sym c.in_ok-push.ensures.ok)
    (more operation_demands (λ before. IsOperation) c.args.items.now c.loop-at.at c.index-items-at.result c.loop-at.operations x c.loop-at-test.true c.index-items-at.is c.loop-at.invariant (subst Q (sym place) c.in_ok-read_operation.ensures))
