use Rattle.phase_steps.proofs.ReturnedRows.{returned_rows_keep, returned_rows_show}
use Rattle.phase_steps.proofs.laws.returned_rows_show_what_was_written.Goals as goal

pub returns-clause-shown : goal.returns-clause-shown
returns-clause-shown c = returned_rows_show c.pairs_are_long.ensures

pub returns-clause-kept : goal.returns-clause-kept
returns-clause-kept c = returned_rows_keep c.pairs_are_long.ensures
