use Rattle.phase_steps.proofs.CompletedRows.{completed_rows_show, trimming_keeps_view}
use Rattle.phase_steps.proofs.laws.completing_changes_no_view.Goals as goal

pub returns-clause-trimmed : goal.returns-clause-trimmed
returns-clause-trimmed c = trimming_keeps_view c.pairs_are_long.ensures

pub returns-clause-ordered : goal.returns-clause-ordered
returns-clause-ordered c = completed_rows_show c.pairs_are_long.ensures
