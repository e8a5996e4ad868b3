use Rattle.std.proofs.Common.{◌≡◌, ◌+◌, ◌≤◌, length}
use Rattle.row_lock.specs.Holding.{open_tickets}
use Rattle.row_lock.proofs.finding.open_count.Given as goal

abbrev pub invariant-loop-lock : goal.invariant-loop-lock
invariant-loop-lock l = (l.count + length (open_tickets l.rest) ≡ length (open_tickets l.locks)) × (l.count + length l.rest ≤ length l.locks)

abbrev pub decreases-loop-lock : goal.decreases-loop-lock
decreases-loop-lock l = length l.rest
