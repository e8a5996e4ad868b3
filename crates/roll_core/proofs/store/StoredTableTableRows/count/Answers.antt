use Rattle.roll_core.proofs.Words.{◌∙◌, ap, length, sym, length-map, kept, rows_meant, seen, OwnTable}
use Rattle.roll_core.proofs.Words.finite
use Rattle.roll_core.proofs.store.StoredTableTableRows.count.Goals as goal

pub returns : goal.returns
returns c =
    let rows = c.self.inside.rows.rows in
    c.len.ensures ∙ finite.len-entries rows ∙ sym (length-map (finite.entries rows) (kept c.self.inside.form))
    ∙ ap (λ (table : OwnTable). length (rows_meant (seen table))) c.self.view_is
