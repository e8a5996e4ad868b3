use Rattle.phase_steps.proofs.StoredRows.{left_rows_are_filled, left_rows_are_laid, trimming_leaves_trimmed}
use Rattle.phase_steps.proofs.laws.rows_are_stored_by_the_step.Goals as goal

pub returns-clause-left : goal.returns-clause-left
returns-clause-left c = left_rows_are_filled

pub returns-clause-laid : goal.returns-clause-laid
returns-clause-laid c = left_rows_are_laid

pub returns-clause-trimmed : goal.returns-clause-trimmed
returns-clause-trimmed c = trimming_leaves_trimmed c.pairs_are_long.ensures
