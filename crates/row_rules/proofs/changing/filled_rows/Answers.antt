use Rattle.std.proofs.Common.{◌≡◌, ◌+◌, ◌<◌, ◌∙◌, Err, drop, length, map, sym, subst, arith}
use Rattle.sql_base.specs.Outcome.{every}
use Rattle.row_rules.proofs.Calls.{after, goes_on, stops_at}
use Rattle.row_rules.proofs.Places.{here}
use Rattle.row_rules.specs.Changes.{filled_row, put_all}
use Rattle.row_rules.specs.Outcome.{Answers}
use Rattle.row_rules.specs.Site.{site_of}
use Rattle.row_rules.proofs.changing.filled_rows.Goals as goal

pub returns-in-Err : goal.returns-in-Err
returns-in-Err g c =
    let rows = g.T.TableRows.rows c.args.rows.now in
    let f = filled_row (site_of c.args.site) in
    let at = c.loop-at.at in
    let within : at < length rows = omega arith in
    let first = here rows at c.in_ok-row.row within c.in_ok-row.ensures in
    let before : after c.loop-at.filled (put_all (every (map f (drop at rows)))) ≡ put_all (every (map f rows)) = c.loop-at.invariant in
    let now = stops_at f c.in_ok-row.row (drop (at + 1) rows) c.loop-at.filled c.in-Err.stop c.in-Err.ensures in
    subst (λ wanted. Answers wanted (Err c.in-Err.stop)) (rw first at before) now

pub loop-at-preserved : goal.loop-at-preserved
loop-at-preserved g c =
    let rows = g.T.TableRows.rows c.args.rows.now in
    let f = filled_row (site_of c.args.site) in
    let at = c.loop-at.at in
    let within : at < length rows = omega arith in
    let first = here rows at c.in_ok-row.row within c.in_ok-row.ensures in
    let before : after c.loop-at.filled (put_all (every (map f (drop at rows)))) ≡ put_all (every (map f rows)) = c.loop-at.invariant in
    let step = goes_on f c.in_ok-row.row (drop (at + 1) rows) c.loop-at.filled c.in-Ok.row c.in-Ok.ensures in
    rw c.in_ok-push-in-Ok.ensures.ok (sym step ∙ rw first at before)
