use Rattle.report.proofs.Joining.{row_pushed}
use Rattle.report.proofs.telling.push_row.Goals as goal

pub returns : goal.returns
returns c = row_pushed c.args.row.now _ _ _ _ c.in_ok-extend_from_slice.ensures.items c.in_ok-push_values.ensures c.in_ok-extend_from_slice-2.ensures.items
