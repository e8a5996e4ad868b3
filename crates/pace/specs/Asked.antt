-- What is asked of the functions that a pacer and a brake keep. All of it is our own.
use Rattle.std.specs.Prelude.{ℕ, ◌^◌, ◌<◌, ◌≤◌}
use Rattle.pace.specs.declared.progress.Progress.{Progress}

-- no more rows are done than there are, and a batch has 1 to 10,000
pub record IsWellFormed (p : Progress) : Type 0 where
  pub within : p.done ≤ p.total
  pub some : 1 ≤ p.batch
  pub few : p.batch ≤ 10000

-- the numbers are of their types
pub record IsInRange (p : Progress) : Type 0 where
  pub total : p.total < 2 ^ 32
  pub pause : p.pause < 2 ^ 64

-- it may be asked of every progress that is well formed
abbrev pub MayBeAsked : {F : Type 0} → (F → Progress → Type 0) → F → Type 0
MayBeAsked may f = (p : Progress) → IsInRange p → IsWellFormed p → may f p

-- a size that a batch may have
abbrev pub IsBatchSize : ℕ → Type 0
IsBatchSize n = (1 ≤ n) × (n ≤ 10000)

-- whatever it answers to such a progress is a batch's size
abbrev pub GivesSizes : {F : Type 0} → (F → Progress → ℕ → Type 0) → F → Type 0
GivesSizes gives f = (p : Progress) (n : ℕ) → IsInRange p → IsWellFormed p → gives f p n → IsBatchSize n
