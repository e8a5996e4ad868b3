use Rattle.std.proofs.Common.{◌≡◌, ◌∙◌, ◌+◌, ◌<◌, ap, drop, length, sym, arith}
use Rattle.std.proofs.lemmas.Grind.{common_steps}
use Rattle.std.specs.List.{cons_option}
use Rattle.std.specs.Option.{option_map}
use Rattle.row_rules.proofs.Places.{here}
use Rattle.row_rules.specs.Accept.{present}
use Rattle.row_rules.specs.Words.{New}
use Rattle.row_rules.proofs.steps.new_halves.Goals as goal
use Rattle.row_rules.proofs.steps.new_halves.Goals.{in-Some+in_ok-push, in_default}

pub loop-at-preserved : goal.loop-at-preserved
loop-at-preserved g c =
    let rows = g.T.TableRows.rows c.args.rows.now in
    let within : c.loop-at.at < length rows = omega arith in
    let row = c.in_ok-row.row in
    let rest = present New (drop (c.loop-at.at + 1) rows) in
    let step : present New (drop c.loop-at.at rows) ≡ cons_option (option_map (λ values. (row.key, values)) row.halves.new) rest =
    ap (present New) (here rows c.loop-at.at row within c.in_ok-row.ensures) in
    elim c.match-new_half.branch [
      | in-Some+in_ok-push w ↦
          let one = step ∙ ap (λ o. cons_option o rest) (sym w.in-Some.ensures) in
          grind (arith, common_steps, one)
      | in_default w ↦ let none = step ∙ ap (λ o. cons_option o rest) (sym w.in_default.ensures) in grind (arith, common_steps, none)
    ]
