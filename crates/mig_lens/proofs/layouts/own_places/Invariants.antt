use Rattle.std.proofs.Common.{◌≡◌, map, take}
use Rattle.mig_lens.specs.Layout as spec
use Rattle.mig_lens.proofs.layouts.own_places.Given as goal

abbrev pub invariant-loop-column : goal.invariant-loop-column
invariant-loop-column l = l.places ≡ map spec.place_of (take l.column-index l.columns)
