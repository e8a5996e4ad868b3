use Rattle.std.proofs.Common.{◌≡◌, ◌+◌, ◌<◌, ◌++◌, ◌∙◌, Ok, Err, drop, length, sym, subst, arith}
use Rattle.std.proofs.lemmas.Result.{err_from_is_err_and}
use Rattle.sql_base.specs.Outcome.{and_then}
use Rattle.row_rules.proofs.Places.{here}
use Rattle.row_rules.proofs.Asking.{showing_stops, shown_on}
use Rattle.row_rules.specs.Causes.{max_reply}
use Rattle.row_rules.specs.Outcome.{Answers}
use Rattle.row_rules.specs.Show.{rows_shown}
use Rattle.row_rules.specs.Site.{site_of}
use Rattle.row_rules.proofs.showing.rows_shown.Goals as goal

pub returns-in_err-shown : goal.returns-in_err-shown
returns-in_err-shown g c =
    let rows = g.T.TableRows.rows c.args.rows.now in
    let site = site_of c.args.site in
    let at = c.loop-at.at in
    let within : at < length rows = omega arith in
    let first = here rows at c.in_ok-row.row within c.in_ok-row.ensures in
    let before : and_then (rows_shown site c.args.items.now c.args.condition.now c.loop-at.room (drop at rows)) (λ more. Ok (c.loop-at.all ++ more)) ≡ rows_shown site c.args.items.now c.args.condition.now max_reply rows = c.loop-at.invariant in
    let stop = c.in_err-shown.field-0.0 in
    let now = showing_stops site c.args.items.now c.args.condition.now c.loop-at.room c.in_ok-row.row (drop (at + 1) rows) c.loop-at.all stop c.in_err-shown.ensures in
    let p = err_from_is_err_and c.from_residual-in_err-shown.result c.from_residual-in_err-shown.ensures.1 in
    rw (p.1, p.2) (subst (λ wanted. Answers wanted (Err stop)) (rw first at before) now)

pub loop-at-preserved : goal.loop-at-preserved
loop-at-preserved g c =
    let rows = g.T.TableRows.rows c.args.rows.now in
    let site = site_of c.args.site in
    let at = c.loop-at.at in
    let within : at < length rows = omega arith in
    let first = here rows at c.in_ok-row.row within c.in_ok-row.ensures in
    let before : and_then (rows_shown site c.args.items.now c.args.condition.now c.loop-at.room (drop at rows)) (λ more. Ok (c.loop-at.all ++ more)) ≡ rows_shown site c.args.items.now c.args.condition.now max_reply rows = c.loop-at.invariant in
    let step = shown_on site c.args.items.now c.args.condition.now c.loop-at.room c.in_ok-row.row (drop (at + 1) rows) c.loop-at.all c.in_ok-shown.shown c.in_ok-shown.ensures in
    rw (c.in_ok-push_shown.ensures, c.room_after-room.ensures) (sym step ∙ rw first at before)
