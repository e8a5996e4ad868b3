use Rattle.std.proofs.Common.{◌≡◌, ◌+◌, ◌++◌, map, take}
use Rattle.std.specs.Prelude.{vec_capacity, vec_len}
use Rattle.row_lock.specs.Holding.{lock_on}
use Rattle.row_lock.proofs.finding.push_each.Given as goal

abbrev pub invariant-loop-key : goal.invariant-loop-key
invariant-loop-key l = (l.locks.items ≡ l.fn.locks.items ++ map (lock_on l.ticket l.table) (take l.key-index l.keys)) × (vec_len l.locks ≡ vec_len l.fn.locks + l.key-index) × (vec_capacity l.locks ≡ vec_capacity l.fn.locks)
