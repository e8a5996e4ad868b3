use Rattle.std.proofs.Common.{◌≡◌, ◌≤◌, drop, length}
use Rattle.constraint.specs.Inner.{least_alike}
use Rattle.constraint.proofs.clashes.least_alike.Given as goal

abbrev pub decreases-loop-at : goal.decreases-loop-at
decreases-loop-at l = l.at

abbrev pub invariant-loop-at : goal.invariant-loop-at
invariant-loop-at l = (l.at ≤ length l.rows) × (l.least ≡ least_alike l.unique l.values (drop l.at l.rows) l.key)
