use Rattle.std.proofs.Common.{◌≡◌, ℕ, ◌+◌, List, Err, sym, ◌∙◌, ap, subst}
use Rattle.std.proofs.lemmas.Result.{err_from_is_err_and}
use Rattle.mig_json.specs.Kind.{name_demands, IsNewName}
use Rattle.mig_json.proofs.Loops.{Read, more, fails}
use Rattle.mig_json.proofs.objects.read_names.Goals as goal

pub returns-in_err-new_name : goal.returns-in_err-new_name
returns-in_err-new_name c =
    let p = err_from_is_err_and c.from_residual.result c.from_residual.ensures.1 in
    let e : c.from_residual.result ≡ Err c.in_err-new_name.field-0.0 = p.1 ∙ ap Err p.2 in
    rw e (λ h. fails (name_demands c.args.at c.args.path.now) IsNewName c.args.items.now c.loop-j.j c.index-items-j.result c.loop-j.names c.in_err-new_name.field-0.0 c.loop-j-test.true c.index-items-j.is c.loop-j.invariant (c.in_err-new_name.ensures h))

pub loop-j-preserved : goal.loop-j-preserved
loop-j-preserved c =
    let P : List (List ℕ) → Type 0 = λ xs. Read (name_demands c.args.at c.args.path.now) IsNewName (c.loop-j.j + 1) c.args.items.now xs in
    subst P (sym c.in_ok-push.ensures.ok)
    (more (name_demands c.args.at c.args.path.now) IsNewName c.args.items.now c.loop-j.j c.index-items-j.result c.loop-j.names c.in_ok-new_name.field-0 c.loop-j-test.true c.index-items-j.is c.loop-j.invariant c.in_ok-new_name.ensures)
