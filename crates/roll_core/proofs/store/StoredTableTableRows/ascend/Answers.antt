use Rattle.roll_core.proofs.Indexed.{rows_ascend}
use Rattle.roll_core.proofs.store.StoredTableTableRows.ascend.Goals as goal

pub returns : goal.returns
returns c h = rows_ascend c.args.self.now.form c.args.self.now.rows.rows
