use Rattle.roll_core.proofs.Words.{rules, ◌≡◌, Some, row_alone, rows_reached, ◌∙◌, ap, sym, subst, Answers, changes, rows_meant, seen}
use Rattle.roll_core.proofs.Words.sites
use Rattle.roll_core.proofs.Reached.{changes_within}
use Rattle.roll_core.proofs.reach.changes_reached.Goals as goal

pub returns-in_ok-row-in-Some : goal.returns-in_ok-row-in-Some
returns-in_ok-row-in-Some c =
    let site = sites.site_of c.args.site in
    let law = c.statements_stay_within_reach.ensures in
    let within = changes_within law.altering law.removing site c.args.job.now (rows_meant (seen c.args.table.now)) c.in-Some.key c.requires (sym c.job_reach.ensures ∙ c.in-Some.is) in
    let row : row_alone c.in_ok-row-in-Some.row ≡ rows_reached (Some c.in-Some.key) (rows_meant (seen c.args.table.now)) = search (rules, c.in_ok-row-in-Some.ensures) in
    subst (λ wanted. Answers wanted c.changes.result) (ap (changes site c.args.job.now) row ∙ within) c.changes.ensures
