use Rattle.std.proofs.Common.{◌≤◌, ◌-◌, length}
use Rattle.row_store.specs.Place.{place}
use Rattle.row_store.proofs.places.place.Given as goal

abbrev pub invariant-loop-low : goal.invariant-loop-low
invariant-loop-low l = (l.low ≤ place l.key l.rows) × (place l.key l.rows ≤ l.high) × (l.high ≤ length l.rows)

abbrev pub decreases-loop-low : goal.decreases-loop-low
decreases-loop-low l = l.high - l.low
