use Rattle.row_fit.proofs.PairedRows.{rows_are_as_marked, rows_fit_by_their_marks}
use Rattle.row_fit.proofs.laws.rows_fit_by_their_marks.Goals as goal

pub returns-clause-fitting : goal.returns-clause-fitting
returns-clause-fitting c =
    rows_fit_by_their_marks c.pairs_are_long.ensures c.rows_fit_their_places.ensures.shown

pub returns-clause-marked : goal.returns-clause-marked
returns-clause-marked c = rows_are_as_marked c.paired_rows_are_long.ensures.unfilled
