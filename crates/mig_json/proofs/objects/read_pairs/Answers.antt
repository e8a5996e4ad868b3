use Rattle.std.proofs.Common.{◌≡◌, ℕ, List, [], ◌∷◌, ◌++◌, Err, sym, ◌∙◌, ap, subst, append_assoc}
use Rattle.std.proofs.lemmas.Result.{err_from_is_err_and}
use Rattle.serde_json.specs.View.{view}
use Rattle.sql_base.specs.declared.exprs.Expr.{Expr}
use Rattle.mig_json.specs.Demand.{AreMet, FirstUnmet}
use Rattle.mig_json.specs.Kind.{pair_demands, IsPair}
use Rattle.mig_json.proofs.Pairs.{Entry, Done, one_more, pair_fails}
use Rattle.mig_json.proofs.objects.read_pairs.Goals as goal

pub returns-in_err-read_pair : goal.returns-in_err-read_pair
returns-in_err-read_pair c =
    let l = c.loop-key in
    let e : Entry = (c.in-Some.key.now, c.in-Some.value.now) in
    let all : c.args.map.now.entries ≡ l.invariant.0 ++ e ∷ c.next.new.self = l.invariant.1 ∙ ap (λ (es : List Entry). l.invariant.0 ++ es) c.in-Some.ensures.steps in
    let p = err_from_is_err_and c.from_residual.result c.from_residual.ensures.1 in
    let is : c.from_residual.result ≡ Err c.in_err-read_pair.field-0.0 = p.1 ∙ ap Err p.2 in
    let P : List ℕ → Type 0 = λ key. FirstUnmet (pair_demands c.args.member c.args.at c.args.path.now key (view c.in-Some.value.now)) c.in_err-read_pair.field-0.0 in
    rw is (λ h. pair_fails c.args.member c.args.at c.args.path.now c.args.map.now.entries c.next.new.self e c.in_err-read_pair.field-0.0 all l.invariant.2 (subst P c.as_str.ensures.value (c.in_err-read_pair.ensures h)))

pub loop-key-preserved : goal.loop-key-preserved
loop-key-preserved c =
    let l = c.loop-key in
    let e : Entry = (c.in-Some.key.now, c.in-Some.value.now) in
    let all : c.args.map.now.entries ≡ l.invariant.0 ++ e ∷ c.next.new.self = l.invariant.1 ∙ ap (λ (es : List Entry). l.invariant.0 ++ es) c.in-Some.ensures.steps in
    let x = c.in_ok-read_pair.field-0 in
    let P : List ℕ → Type 0 = λ key. AreMet (pair_demands c.args.member c.args.at c.args.path.now key (view c.in-Some.value.now)) × IsPair key (view c.in-Some.value.now) x in
    let more = one_more c.args.member c.args.at c.args.path.now e x l.invariant.2 (subst P c.as_str.ensures.value c.in_ok-read_pair.ensures) in
    let Q : List (List ℕ × Expr) → Type 0 = λ xs. Done c.args.member c.args.at c.args.path.now (l.invariant.0 ++ e ∷ []) xs in
    (l.invariant.0 ++ e ∷ [], all ∙ sym (append_assoc l.invariant.0 (e ∷ []) c.next.new.self), subst Q (sym c.in_ok-push.ensures.ok) more)
