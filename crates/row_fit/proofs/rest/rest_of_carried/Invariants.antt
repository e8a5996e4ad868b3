use Rattle.std.proofs.Common.{◌≡◌, drop}
use Rattle.phase_steps.specs.Rows as rows
use Rattle.row_fit.specs.Rest as spec
use Rattle.row_fit.proofs.rest.rest_of_carried.Given as goal

-- what stands behind the columns that are left, in the rest so far, stands behind all of them
abbrev pub invariant-loop-at : goal.invariant-loop-at
invariant-loop-at l =
    spec.rest_of (rows.carried_columns (drop l.at l.columns) (drop l.at l.cells)) l.rest
    ≡ spec.rest_of (rows.carried_columns l.columns l.cells) l.values
