-- What the calls of a disk do to its file, and what a crash may leave between two syncs.
use Rattle.std.specs.Prelude.{◌≡◌, ◌⊎◌, ℕ, ◌+◌, ◌≤◌, max, min, List, ◌++◌, length, take, drop}

-- new is old with these bytes at this offset
abbrev pub Holds : List ℕ → ℕ → List ℕ → List ℕ → Type 0
Holds old at bytes new = new ≡ take at old ++ bytes ++ drop (at + length bytes) old

-- after a write of n bytes that is cut short: any bytes in the range and past the old end, the same elsewhere
pub record Torn (at n : ℕ) (old new : List ℕ) : Type 0 where
  pub before : take at new ≡ take at old
  pub after : drop (at + n) new ≡ drop (at + n) old
  pub no_shorter : length old ≤ length new
  pub no_longer : length new ≤ max (length old) (at + n)

-- after a cut to n bytes that a crash cuts short: some length between (an image may be shorter than n already)
pub record Shortened (n : ℕ) (old new : List ℕ) : Type 0 where
  pub no_shorter : min n (length old) ≤ length new
  pub front : take (length new) old ≡ new

-- each new outcome of a crash is an old outcome after a step
abbrev pub Follows : (List ℕ → List ℕ → Type 0) → (List ℕ → Type 0) → (List ℕ → Type 0) → Type 0
Follows step old new = (c : List ℕ) → new c → (d : List ℕ) × old d × step d c

-- a crash leaves this and nothing else
abbrev pub Only : List ℕ → (List ℕ → Type 0) → Type 0
Only file outcomes = (c : List ℕ) → outcomes c → c ≡ file

-- each of these is one of those
abbrev pub Within : (List ℕ → Type 0) → (List ℕ → Type 0) → Type 0
Within some all = (c : List ℕ) → some c → all c

-- A call that may change what the disk holds.
pub record Ticks {D : Type 0} (moment : D → ℕ) (seen : D → List ℕ) (may_leave : D → List ℕ → Type 0) (left_since : D → ℕ → List ℕ → Type 0) (old new : D) : Type 0 where
  -- the clock never falls, and rises by one where anything changed
  pub later : moment old ≤ moment new
  pub by_one : moment new ≤ moment old + 1
  pub unless_same : moment new ≡ moment old → (seen new ≡ seen old) × Within (may_leave old) (may_leave new) × Within (may_leave new) (may_leave old)
  -- what a crash since t might have left it might have left before the call, or since the call's start
  pub nothing_else : (t : ℕ) (c : List ℕ) → t ≤ moment old → left_since new t c → left_since old t c ⊎ left_since new (moment old) c
  -- and what it might have left stays so
  pub keeps : (t : ℕ) (c : List ℕ) → t ≤ moment old → left_since old t c → left_since new t c

-- A call that changes nothing of what the disk holds.
pub record Still {D : Type 0} (moment : D → ℕ) (seen : D → List ℕ) (may_leave : D → List ℕ → Type 0) (left_since : D → ℕ → List ℕ → Type 0) (old new : D) : Type 0 where
  pub clock : moment new ≡ moment old
  pub same : seen new ≡ seen old
  pub now : Within (may_leave new) (may_leave old)
  pub since : (t : ℕ) → Within (left_since new t) (left_since old t)
  pub keeps : (t : ℕ) → Within (left_since old t) (left_since new t)

-- A crash at any moment since old leaves a file that has P.
pub record LeavesOnly {D : Type 0} (moment : D → ℕ) (left_since : D → ℕ → List ℕ → Type 0) (old new : D) (P : List ℕ → Type 0) : Type 0 where
  pub later : moment old ≤ moment new
  pub each : (c : List ℕ) → left_since new (moment old) c → P c
  -- for a run that began earlier
  pub before : (t : ℕ) (c : List ℕ) → t ≤ moment old → left_since new t c → left_since old t c ⊎ P c
