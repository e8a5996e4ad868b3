-- When a call may say that the outside failed.
use Rattle.std.specs.Prelude.{◌≡◌, ℕ, ◌+◌, ◌-◌, ◌^◌, ◌≤◌, min, Result, OnErr, OnOk, IfOk, ◌<◌, List, length}

-- a count with one more, which stands still at its type's end
abbrev pub one_more : ℕ → ℕ
one_more n = min (n + 1) (2 ^ 64 - 1)

-- a count of faults rose, or stands at its type's end
abbrev pub Rose : ℕ → ℕ → Type 0
Rose before now = one_more before ≤ now

-- The count never falls; a failure is told where it rose, and only there.
pub record HasExactCause {T E : Type 0} (before now : ℕ) (result : Result T E) : Type 0 where
  pub later : before ≤ now
  pub failed : OnErr result (Rose before now)
  pub passed : OnOk result (now ≡ before)

-- something is taken of a piece that isn't empty
abbrev pub TakesSome : {E : Type 0} → Result ℕ E → List ℕ → Type 0
TakesSome result bytes = IfOk result (λ count. 0 < length bytes → 0 < count)
