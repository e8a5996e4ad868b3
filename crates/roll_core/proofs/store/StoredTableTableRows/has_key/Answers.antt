use Rattle.roll_core.proofs.Words.{rules, ◌≡◌, ◌∙◌, ap, list_any, int_eq, option_copied, rows_meant, seen, OwnTable}
use Rattle.roll_core.proofs.Words.finite
use Rattle.roll_core.proofs.Rows.{has_key-meant}
use Rattle.roll_core.proofs.store.StoredTableTableRows.has_key.Goals as goal

pub returns : goal.returns
returns c =
    let table = c.self.inside in
    let is : option_copied c.get.result ≡ finite.get table.rows.rows c.args.key = search rules in
    c.is_some.ensures ∙ has_key-meant table.form c.args.key table.rows.rows c.get.result is
    ∙ ap (λ (table : OwnTable). list_any (λ row. int_eq c.args.key row.key) (rows_meant (seen table))) c.self.view_is
