use Rattle.std.proofs.Common.{◌≡◌, ◌++◌, drop}
use Rattle.std.specs.List.{filter_map}
use Rattle.mig_plan.specs.Constraints as spec
use Rattle.mig_plan.proofs.constraints.names_at.Given as goal

abbrev pub invariant-loop-at : goal.invariant-loop-at
invariant-loop-at l = l.names ++ filter_map (spec.name_at l.columns) (drop l.at-index l.places) ≡ filter_map (spec.name_at l.columns) l.places
