use Rattle.phase_steps.proofs.WrittenRows.{left_rows_keep, left_rows_show}
use Rattle.phase_steps.proofs.laws.left_rows_show_what_was_written.Goals as goal

pub returns-clause-shown : goal.returns-clause-shown
returns-clause-shown c = left_rows_show c.pairs_are_long.ensures c.stored_rows_hold.ensures

pub returns-clause-kept : goal.returns-clause-kept
returns-clause-kept c = left_rows_keep c.pairs_are_long.ensures
