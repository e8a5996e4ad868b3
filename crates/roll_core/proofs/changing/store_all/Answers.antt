use Rattle.roll_core.proofs.Words.{rules, ◌≡◌, ◌∙◌, New, Old, Rows, meant_changes, put_all, subst, sym, ap}
use Rattle.row_index.specs.Changes.{prepared, put_each}
use Rattle.row_index.specs.Indexes.{IsOver, entries_of}
use Rattle.roll_core.specs.Own.{present_in}
use Rattle.roll_core.proofs.Indexed.{index_after}
use Rattle.roll_core.proofs.changing.store_all.Goals as goal

pub invariant_of-table-2 : goal.invariant_of-table-2
invariant_of-table-2 c =
    let form = c.table.inside.form in
    let rows = c.table.inside.rows.rows in
    let stored : put_all c.args.changes rows ≡ c.put_all.new.rows.rows = search rules in
    let old_uniques : c.apply.new.self.uniques ≡ c.table.inside.old_index.uniques = search rules in
    let new_uniques : c.apply-2.new.self.uniques ≡ c.table.inside.new_index.uniques = search rules in
    let old_entries : entries_of c.apply.new.self.indexes ≡ put_each (prepared c.table.inside.old_index.uniques Old (meant_changes form c.args.changes)) (entries_of c.table.inside.old_index.indexes) = search rules in
    let new_entries : entries_of c.apply-2.new.self.indexes ≡ put_each (prepared c.table.inside.new_index.uniques New (meant_changes form c.args.changes)) (entries_of c.table.inside.new_index.indexes) = search rules in
    let removed = c.changes_keep_order.ensures.removed in
    let indexed = c.changes_are_indexed.ensures.each in (
      subst (λ (rows : Rows). IsOver (present_in Old form rows) c.apply.new.self) stored
          (index_after removed indexed Old form c.args.changes rows c.table.inside.old_index c.apply.new.self c.table.invariant.0 old_uniques old_entries),
      subst (λ (rows : Rows). IsOver (present_in New form rows) c.apply-2.new.self) stored
          (index_after removed indexed New form c.args.changes rows c.table.inside.new_index c.apply-2.new.self c.table.invariant.1 new_uniques new_entries),
    )
