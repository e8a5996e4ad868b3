use Rattle.std.proofs.Common.{◌≡◌, ◌++◌, drop}
use Rattle.trigger_pair.specs.Stored as spec
use Rattle.trigger_pair.proofs.stored.with_shadows.Given as goal

-- the values so far, and then those of the columns that are left, are all of them
abbrev pub invariant-loop-at : goal.invariant-loop-at
invariant-loop-at l = l.values ++ spec.shadow_values (drop l.at l.cells) (drop l.at l.new) ≡ l.initial.values ++ spec.shadow_values l.cells l.new
