use Rattle.std.proofs.Common.{◌≡◌, ◌+◌, ◌<◌, [], ◌∷◌, ◌++◌, ◌∙◌, w64, to_z, of_z, true, false, Ok, Err, drop, length, sym, subst, arith, rules}
use Rattle.std.proofs.lemmas.Result.{err_from_is_err_and}
use Rattle.sql_base.specs.Outcome.{and_then}
use Rattle.row_rules.proofs.Passing.{removed_by, removed_on, removing_stops}
use Rattle.row_rules.proofs.Places.{here}
use Rattle.row_rules.specs.Inner.{has_passed, removed}
use Rattle.row_rules.specs.Outcome.{Answers}
use Rattle.row_rules.specs.Site.{site_of}
use Rattle.row_rules.specs.Words.{Remove}
use Rattle.row_rules.proofs.changing.removed_rows.Goals as goal

pub returns-in_err-has_passed : goal.returns-in_err-has_passed
returns-in_err-has_passed g c =
    let rows = g.T.TableRows.rows c.args.rows.now in
    let site = site_of c.args.site in
    let condition = c.args.condition.now in
    let at = c.loop-at.at in
    let within : at < length rows = omega arith in
    let first = here rows at c.in_ok-row.row within c.in_ok-row.ensures in
    let before : and_then (removed site condition (drop at rows)) (λ rest. Ok (c.loop-at.removed ++ rest)) ≡ removed site condition rows = c.loop-at.invariant in
    let stop = c.in_err-has_passed.field-0.0 in
    let now = removing_stops site condition c.in_ok-row.row (drop (at + 1) rows) c.loop-at.removed stop c.in_err-has_passed.ensures in
    let p = err_from_is_err_and c.from_residual-in_err-has_passed.result c.from_residual-in_err-has_passed.ensures.1 in
    rw (p.1, p.2) (subst (λ wanted. Answers wanted (Err stop)) (rw first at before) now)

pub loop-at-preserved-then-not-branch : goal.loop-at-preserved-then-not-branch
loop-at-preserved-then-not-branch g c =
    let rows = g.T.TableRows.rows c.args.rows.now in
    let site = site_of c.args.site in
    let condition = c.args.condition.now in
    let at = c.loop-at.at in
    let within : at < length rows = omega arith in
    let first = here rows at c.in_ok-row.row within c.in_ok-row.ensures in
    let before : and_then (removed site condition (drop at rows)) (λ rest. Ok (c.loop-at.removed ++ rest)) ≡ removed site condition rows = c.loop-at.invariant in
    let no : c.in_ok-has_passed.field-0 ≡ false = search rules in
    let now = subst (λ passed. has_passed site condition c.in_ok-row.row ≡ Ok passed) no c.in_ok-has_passed.ensures in
    sym (removed_by site condition c.in_ok-row.row (drop (at + 1) rows) c.loop-at.removed now) ∙ rw first at before

pub loop-at-preserved : goal.loop-at-preserved
loop-at-preserved g c =
    let rows = g.T.TableRows.rows c.args.rows.now in
    let site = site_of c.args.site in
    let condition = c.args.condition.now in
    let at = c.loop-at.at in
    let within : at < length rows = omega arith in
    let first = here rows at c.in_ok-row.row within c.in_ok-row.ensures in
    let before : and_then (removed site condition (drop at rows)) (λ rest. Ok (c.loop-at.removed ++ rest)) ≡ removed site condition rows = c.loop-at.invariant in
    let yes : c.in_ok-has_passed.field-0 ≡ true = search rules in
    let now = subst (λ passed. has_passed site condition c.in_ok-row.row ≡ Ok passed) yes c.in_ok-has_passed.ensures in
    let same : to_z w64 (of_z w64 c.in_ok-row.row.key) ≡ c.in_ok-row.row.key = search rules in
    let pushed = subst (λ key. c.push.new.self ≡ c.loop-at.removed ++ Remove key ∷ []) same c.in_ok-push.ensures.ok in
    rw pushed (sym (removed_on site condition c.in_ok-row.row (drop (at + 1) rows) c.loop-at.removed now) ∙ rw first at before)
