use Rattle.std.proofs.Common.{◌≡◌, drop}
use Rattle.row_fit.specs.Rest as spec
use Rattle.row_fit.proofs.rest.rest_of_places.Given as goal

-- what stands behind the places that are left, in the rest so far, stands behind all of them
abbrev pub invariant-loop-place : goal.invariant-loop-place
invariant-loop-place l = spec.rest_of (drop l.place-index l.places) l.rest ≡ spec.rest_of l.places l.values
