use Rattle.roll_core.proofs.Words.{kept, ◌≡◌, ◌∙◌, rules, Some, None, ap, sym, option_copied, row_alone}
use Rattle.roll_core.proofs.Words.finite
use Rattle.roll_core.proofs.Reached.{one_reached}
use Rattle.roll_core.proofs.reach.row_of.Goals as goal

pub returns-in_ok-row-in-Some : goal.returns-in_ok-row-in-Some
returns-in_ok-row-in-Some c =
    let table = c.args.table.now in
    let is : option_copied c.get.result ≡ finite.get table.rows.rows c.args.key = search rules in
    let got = sym (ap option_copied c.in-Some.is) ∙ is in
    let row : c.in_ok-row-in-Some.row ≡ kept table.form (c.args.key, c.in-Some.values.now) = search (rules, c.in_ok-row-in-Some.ensures) in
    ap (λ row. row_alone (Some row)) row ∙ one_reached c.a_key_reaches_one_row.ensures table.form c.args.key table.rows.rows (Some c.in-Some.values.now) got

pub returns-in-None : goal.returns-in-None
returns-in-None c =
    let table = c.args.table.now in
    let is : option_copied c.get.result ≡ finite.get table.rows.rows c.args.key = search rules in
    one_reached c.a_key_reaches_one_row.ensures table.form c.args.key table.rows.rows None (sym (ap option_copied c.in-None.is) ∙ is)
