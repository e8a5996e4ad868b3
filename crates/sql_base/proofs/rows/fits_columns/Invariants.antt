use Rattle.std.proofs.Common.{◌≡◌, drop}
use Rattle.sql_base.specs.Fit as spec
use Rattle.sql_base.proofs.rows.fits_columns.Given as goal

abbrev pub invariant-loop-at : goal.invariant-loop-at
invariant-loop-at l = spec.fits_columns (drop l.at l.columns) (drop l.at l.row) ≡ spec.fits_columns l.columns l.row
