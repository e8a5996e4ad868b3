use Rattle.std.proofs.Common.{◌≡◌, drop}
use Rattle.mig_lens.specs.Layout as layouts
use Rattle.row_fit.specs.Rest as spec
use Rattle.row_fit.proofs.rest.rest_of_shadows.Given as goal

-- what stands behind the columns that are left, in the rest so far, stands behind all of them
abbrev pub invariant-loop-at : goal.invariant-loop-at
invariant-loop-at l =
    spec.rest_of (layouts.shadows (drop l.at l.columns) (drop l.at l.cells)) l.rest
    ≡ spec.rest_of (layouts.shadows l.columns l.cells) l.values
