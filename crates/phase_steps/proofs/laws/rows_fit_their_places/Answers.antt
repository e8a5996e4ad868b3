use Rattle.phase_steps.proofs.ShownRows.{laid_rows_are_long, laid_rows_show_fitting, trimmed_rows_are_long, trimmed_rows_show_fitting}
use Rattle.phase_steps.proofs.StoredRows.{paired_rows_are_laid}
use Rattle.phase_steps.proofs.laws.rows_fit_their_places.Goals as goal

pub returns-clause-begun : goal.returns-clause-begun
returns-clause-begun c = paired_rows_are_laid

pub returns-clause-long : goal.returns-clause-long
returns-clause-long c = laid_rows_are_long

pub returns-clause-shown : goal.returns-clause-shown
returns-clause-shown c = laid_rows_show_fitting

pub returns-clause-trimmed_long : goal.returns-clause-trimmed_long
returns-clause-trimmed_long c = trimmed_rows_are_long

pub returns-clause-trimmed_shown : goal.returns-clause-trimmed_shown
returns-clause-trimmed_shown c = trimmed_rows_show_fitting c.pairs_are_long.ensures
