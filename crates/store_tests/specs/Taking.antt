-- How a ticket takes what it wants.
use Rattle.std.specs.Prelude.{◌≡◌, ℕ, List, ◌++◌, Some, None}
use Rattle.row_lock.specs.declared.locks.Lock.{Lock}
use Rattle.row_lock.specs.declared.locks.Reach.{Reach}
use Rattle.row_lock.specs.Holding.{holder, locks_on}
use Rattle.store_tests.specs.declared.taking.Taken.{Taken}
use Rattle.store_tests.specs.declared.taking.Taken.TheVariants.{All, HeldBy}

abbrev pub Takes : List Lock → ℕ → ℕ → Reach → Taken → List Lock → Type 0
Takes old ticket table keys All new = (holder old table keys ≡ None) × (new ≡ old ++ locks_on ticket table keys)
Takes old ticket table keys (HeldBy by) new = (holder old table keys ≡ Some by) × (new ≡ old)
