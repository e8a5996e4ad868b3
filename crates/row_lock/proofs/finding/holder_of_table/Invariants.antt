use Rattle.std.proofs.Common.{◌≡◌, drop}
use Rattle.row_lock.specs.Holding.{holder}
use Rattle.row_lock.specs.declared.locks.Reach.TheVariants.{Table}
use Rattle.row_lock.proofs.Holders.{either}
use Rattle.row_lock.proofs.finding.holder_of_table.Given as goal

abbrev pub invariant-loop-lock : goal.invariant-loop-lock
invariant-loop-lock l = either l.least (holder (drop l.lock-index l.locks) l.table Table) ≡ holder l.locks l.table Table
