use Rattle.roll_core.proofs.Words.{rules, ◌≡◌, Some, row_alone, rows_reached, ◌∙◌, ap, sym, subst, Answers, max_reply, rows_meant, rows_shown, seen}
use Rattle.roll_core.proofs.Words.sites
use Rattle.roll_core.proofs.reach.shown_reached.Goals as goal

pub returns-in_ok-row-in-Some : goal.returns-in_ok-row-in-Some
returns-in_ok-row-in-Some c =
    let site = sites.site_of c.args.site in
    let rows = rows_meant (seen c.args.table.now) in
    let shown = rows_shown site c.args.items.now c.args.condition.now max_reply in
    let within : shown (rows_reached _ rows) ≡ shown (rows_reached (Some c.in-Some.key) rows) = ap (λ reach. shown (rows_reached reach rows)) (sym c.key_named.ensures ∙ c.in-Some.is) in
    let law = c.statements_stay_within_reach.ensures.showing site c.args.items.now c.args.condition.now max_reply rows c.requires in
    let row : row_alone c.in_ok-row-in-Some.row ≡ rows_reached (Some c.in-Some.key) rows = search (rules, c.in_ok-row-in-Some.ensures) in
    subst (λ wanted. Answers wanted c.rows_shown.result) (ap shown row ∙ sym within ∙ sym law) c.rows_shown.ensures
