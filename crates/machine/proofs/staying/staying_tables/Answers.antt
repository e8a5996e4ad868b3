use Rattle.std.proofs.Common.{◌∙◌, ◌+◌, [], ◌∷◌, ◌++◌, append_assoc, ap, drop, sym}
use Rattle.machine.specs.Migrate.{staying_tables}
use Rattle.machine.proofs.Lasting.{goes, stays}
use Rattle.machine.proofs.staying.staying_tables.Goals.{then-has_table+in_ok-staying_table+in_ok-push, else-has_table}
use Rattle.machine.proofs.staying.staying_tables.Goals as goal

pub loop-table-preserved : goal.loop-table-preserved
loop-table-preserved c =
    let gone = c.args.gone in
    let schema = c.args.schema.now in
    let fates = c.args.fates.now in
    let tables = c.args.tables.now in
    elim c.if-has_table.branch [
      | then-has_table+in_ok-staying_table+in_ok-push w ↦
          let e = stays gone schema fates tables c.loop-table.table-index c.table-item.result c.loop-table-test.true c.table-item.is (sym c.has_table.ensures ∙ w.if-has_table.true) in
          let rest = staying_tables gone schema fates (drop (c.loop-table.table-index + 1) tables) in
          rw w.staying-is (rw w.in_ok-push.ensures.ok (append_assoc c.loop-table.staying (w.in_ok-staying_table.field-0 ∷ []) rest
          ∙ ap (λ all. c.loop-table.staying ++ all) (ap (λ table. table ∷ rest) w.in_ok-staying_table.ensures ∙ sym e) ∙ c.loop-table.invariant))
      | else-has_table w ↦
          let e = goes gone schema fates tables c.loop-table.table-index c.table-item.result c.loop-table-test.true c.table-item.is (sym c.has_table.ensures ∙ w.if-has_table.false) in
          rw w.staying-is (ap (λ rest. c.loop-table.staying ++ rest) (sym e) ∙ c.loop-table.invariant)
    ]
