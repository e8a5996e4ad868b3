use Rattle.roll_core.proofs.Words.{rules, ◌≡◌, Form, MayLeave, New, Old, OwnTable, if◌then◌else◌, seen, stays_new, subst, sym}
use Rattle.row_index.specs.Indexes.{IsOver, SideIndexed}
use Rattle.roll_core.specs.Own.{present_in}
use Rattle.roll_core.proofs.Indexed.{index_left}
use Rattle.roll_core.proofs.leaving.left_table.Goals as goal

pub invariant_of-result : goal.invariant_of-result
invariant_of-result c =
    let gone = c.args.gone in
    let table = c.table.inside in
    let rows = table.rows.rows in
    let is : c.index_that_stays-index.result ≡ (if stays_new gone table.form then table.new_index else table.old_index) = search rules in
    let may = subst (λ (table : OwnTable). MayLeave gone (seen table)) (sym c.table.view_is) c.requires in (
      subst (λ (form : Form). IsOver (present_in Old form rows) c.index_that_stays-index.result) (sym c.left_form.ensures)
          (subst (IsOver (present_in Old _ rows)) (sym is) (index_left table.number gone table.form rows table.old_index table.new_index may c.table.invariant.0 c.table.invariant.1)),
      subst (IsOver (present_in New c.left_form.result rows)) (sym c.new.ensures) tt,
    )
