-- What taking and releasing do to who holds a key.
use Rattle.std.specs.Prelude.{◌≡◌, ℕ, ◌==◌, ℤ, Bool, true, ◌&&◌, not, List, ◌++◌, Option, Some, None, if◌then◌else◌}
use Rattle.std.specs.List.{filter, flat_map, list_any}
use Rattle.std.specs.Ordering.{int_eq}
use Rattle.row_lock.specs.declared.locks.Lock.{Lock}
use Rattle.row_lock.specs.declared.locks.Reach.{Reach}
use Rattle.row_lock.specs.declared.locks.Reach.TheVariants.{Keys, Table}
use Rattle.row_lock.specs.Holding.{AreApart, held, holder, locks_on, locks_without}

-- the reach has this key
abbrev pub covers : Reach → ℤ → Bool
covers (Keys keys) key = list_any (λ other. int_eq other key) keys
covers Table key = true

abbrev pub TakingHolds : Type 0
TakingHolds = (locks : List Lock) (ticket table : ℕ) (reach : Reach) → holder locks table reach ≡ None → (other : ℕ) (key : ℤ)
    → held (locks ++ locks_on ticket table reach) other key ≡ (if table == other && covers reach key then Some ticket else held locks other key)

-- a holder, unless it is this ticket
abbrev pub other_than : ℕ → Option ℕ → Option ℕ
other_than ticket None = None
other_than ticket (Some other) = if other == ticket then None else Some other

abbrev pub ReleasingFrees : Type 0
ReleasingFrees = (locks : List Lock) (ticket table : ℕ) (key : ℤ) → AreApart locks → held (locks_without ticket locks) table key ≡ other_than ticket (held locks table key)

abbrev pub ReleasesEach : Type 0 → Type 0
ReleasesEach X = (number table : X → ℕ) (reach : X → Reach) (entries : List X) (ticket : ℕ)
    → locks_without ticket (flat_map (λ x. locks_on (number x) (table x) (reach x)) entries) ≡ flat_map (λ x. locks_on (number x) (table x) (reach x)) (filter (λ x. not (number x == ticket)) entries)
