use Rattle.roll_core.proofs.Words.{Bor, ◌≡◌, ◌∙◌, Bool, List, None, Some, Option, ap, list_any, option_map, rows_meant, seen, subst, sym, New, Old, OwnTable, Side, Value, ℤ}
use Rattle.sql_base.specs.declared.shapes.Unique.{Unique}
use Rattle.row_index.specs.Indexes.{IsOver, SideIndexed, entries_for, entries_of}
use Rattle.row_index.specs.Laws.{OthersAreThoseOfRows}
use Rattle.row_rules.specs.Accept.{other_alike, present}
use Rattle.roll_core.specs.Own.{present_in}
use Rattle.roll_core.proofs.Indexed.{told_by_index}
use Rattle.roll_core.proofs.store.StoredTableTableRows.other_alike.Goals as goal
use Rattle.roll_core.proofs.store.StoredTableTableRows.other_alike.Goals.{in-Old, in-New}

pub returns-in-Some : goal.returns-in-Some
returns-in-Some c =
    let form = c.self.inside.form in
    let rows = c.self.inside.rows.rows in
    let index = c.match-side.index.now in
    let over : IsOver (present_in c.args.side form rows) index = elim c.match-side.branch [
      | in-Old w ↦ subst (λ side. IsOver (present_in side form rows) index) (sym w.in-Old.is) (subst (IsOver (present_in Old form rows)) (sym (ap (λ (b : Bor SideIndexed). b.now) w.index-is)) c.self.invariant.0)
      | in-New w ↦ subst (λ side. IsOver (present_in side form rows) index) (sym w.in-New.is) (subst (IsOver (present_in New form rows)) (sym (ap (λ (b : Bor SideIndexed). b.now) w.index-is)) c.self.invariant.1)
    ] in
    told_by_index c.others_are_those_of_rows.ensures c.args.unique.now c.args.side form rows index c.args.values.now c.args.keys.now c.in-Some.found over (sym c.in-Some.is ∙ c.other_alike.ensures)
    ∙ ap (λ (table : OwnTable). list_any (other_alike c.args.unique.now c.args.side c.args.values.now c.args.keys.now) (rows_meant (seen table))) c.self.view_is
