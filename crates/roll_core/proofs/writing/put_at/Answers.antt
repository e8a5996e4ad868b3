use Rattle.roll_core.proofs.Words.{refl, slice_index_or}
use Rattle.roll_core.proofs.Tables.{on_err, set_changed, set_same}
use Rattle.roll_core.proofs.writing.put_at.Goals as goal

pub returns-in_err-put_changes-clause-err : goal.returns-in_err-put_changes-clause-err
returns-in_err-put_changes-clause-err c =
    on_err c.from_residual-in_err-put_changes.result _ (set_same c.args.tables.now c.args.at c.index-tables-at.result (slice_index_or c.args.tables.now c.args.at c.index-tables-at.result) c.put_changes.new.table c.requires refl c.in_err-put_changes.ensures.err)

pub returns-clause-ok : goal.returns-clause-ok
returns-clause-ok c =
    set_changed c.args.tables.now c.args.at c.index-tables-at.result (slice_index_or c.args.tables.now c.args.at c.index-tables-at.result) c.put_changes.new.table c.args.changes.now c.requires refl c.in_ok-put_changes.ensures.ok
