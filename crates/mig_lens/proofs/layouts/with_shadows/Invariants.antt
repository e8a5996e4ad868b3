use Rattle.std.proofs.Common.{◌≡◌, ◌++◌, drop}
use Rattle.mig_lens.specs.Layout as spec
use Rattle.mig_lens.proofs.layouts.with_shadows.Given as goal

-- the places so far, and then those of the columns that are left, are all of them
abbrev pub invariant-loop-at : goal.invariant-loop-at
invariant-loop-at l = l.places ++ spec.shadows (drop l.at l.columns) (drop l.at l.cells) ≡ l.initial.places ++ spec.shadows l.columns l.cells
