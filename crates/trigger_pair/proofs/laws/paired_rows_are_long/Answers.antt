use Rattle.trigger_pair.proofs.PairedRows.{filled_rows_are_long, unfilled_rows_are_begun}
use Rattle.trigger_pair.proofs.laws.paired_rows_are_long.Goals as goal

pub returns-clause-filled : goal.returns-clause-filled
returns-clause-filled c = filled_rows_are_long

pub returns-clause-unfilled : goal.returns-clause-unfilled
returns-clause-unfilled c = unfilled_rows_are_begun
