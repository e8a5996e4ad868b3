use Rattle.std.proofs.Common.{◌≡◌, drop}
use Rattle.row_lock.specs.Holding.{holder}
use Rattle.row_lock.specs.declared.locks.Reach.TheVariants.{Keys}
use Rattle.row_lock.proofs.Holders.{either}
use Rattle.row_lock.proofs.finding.holder_of_keys.Given as goal

abbrev pub invariant-loop-lock : goal.invariant-loop-lock
invariant-loop-lock l = either l.least (holder (drop l.lock-index l.locks) l.table (Keys l.keys)) ≡ holder l.locks l.table (Keys l.keys)
