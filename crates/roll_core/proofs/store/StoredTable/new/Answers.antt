use Rattle.roll_core.proofs.Indexed.{rows_ascend}
use Rattle.roll_core.proofs.store.StoredTable.new.Goals as goal

pub build-requires : goal.build-requires
build-requires c = rows_ascend c.args.form c.args.rows.rows

pub build-requires-2 : goal.build-requires-2
build-requires-2 c = rows_ascend c.args.form c.args.rows.rows
