-- What contracts see of the locks.
use Rattle.std.specs.Prelude.{ℕ, List}
use Rattle.row_lock.specs.declared.locks.Lock.{Lock}

pub record Held : Type 0 where
  -- the locks, in the order in which they were taken
  pub locks : List Lock
  -- how many keys and tables may be taken before memory is asked for again
  pub spare : ℕ
