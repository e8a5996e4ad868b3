use Rattle.std.proofs.Common.{◌≡◌, ◌≤◌, drop, length}
use Rattle.std.specs.List.{filter}
use Rattle.std.specs.Map.{keys_of}
use Rattle.sql_eval.specs.Row.{least}
use Rattle.constraint.specs.Valid.{has_equal}
use Rattle.constraint.proofs.validation.least_equal.Given as goal

abbrev pub decreases-loop-at : goal.decreases-loop-at
decreases-loop-at l = l.at

abbrev pub invariant-loop-at : goal.invariant-loop-at
invariant-loop-at l = (l.at ≤ length l.rows) × (l.least ≡ least (filter (has_equal l.unique l.rows) (keys_of (drop l.at l.rows))))
