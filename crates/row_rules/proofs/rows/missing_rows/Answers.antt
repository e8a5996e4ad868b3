use Rattle.std.proofs.Common.{◌∙◌, ◌<◌, length, arith}
use Rattle.std.proofs.lemmas.Grind.{common_steps}
use Rattle.row_rules.proofs.Places.{filled_here, one_more_missing}
use Rattle.row_rules.proofs.rows.missing_rows.Goals as goal
use Rattle.row_rules.proofs.rows.missing_rows.Goals.{then-misses_at+in_ok-row_at+in_ok-push, else-misses_at}

pub loop-at-preserved : goal.loop-at-preserved
loop-at-preserved g c =
    let rows = g.T.TableRows.rows c.args.rows.now in
    let within : c.loop-at.at < length rows = omega arith in
    elim c.if-misses_at.branch [
      | then-misses_at+in_ok-row_at+in_ok-push w ↦
          let room : length c.loop-at.missing < c.args.n = omega arith in
          let missing = w.if-misses_at.ensures in
          one_more_missing rows c.args.n c.loop-at.at c.loop-at.missing c.if-misses_at.missing _ within room (w.missing-is ∙ w.in_ok-push.ensures.ok) missing w.in_ok-row_at.ensures c.loop-at.invariant.1
      | else-misses_at w ↦ grind (arith, common_steps, filled_here rows c.loop-at.at within w.if-misses_at.ensures)
    ]
