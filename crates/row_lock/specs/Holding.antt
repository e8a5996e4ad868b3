-- Which tickets hold what, and how that changes. All of it is our own.
use Rattle.std.specs.Prelude.{ℕ, ◌==◌, ℤ, Bool, true, ◌&&◌, not, List, [], ◌∷◌, Option, Some, None, map, length, min, if◌then◌else◌}
use Rattle.std.specs.List.{filter, list_any}
use Rattle.row_lock.specs.declared.locks.Lock.{Lock}
use Rattle.row_lock.specs.declared.locks.Reach.{Reach}
use Rattle.row_lock.specs.declared.locks.Reach.TheVariants.{Keys, Table}
pub use Rattle.row_lock.specs.Apart.{AreApart, holds}

-- ---- who holds it

-- the lock holds one of these keys, or any of the table's
abbrev pub is_part : Reach → Option ℤ → Bool
is_part (Keys keys) held = list_any (holds held) keys
is_part Table held = true

abbrev pub meets : ℕ → Reach → Lock → Bool
meets table reach lock = lock.table == table && is_part reach lock.key

abbrev pub lesser : ℕ → Option ℕ → ℕ
lesser n None = n
lesser n (Some m) = min n m

abbrev pub least : List ℕ → Option ℕ
least [] = None
least (n ∷ ns) = Some (lesser n (least ns))

-- the least ticket that holds a part of the reach
abbrev pub holder : List Lock → ℕ → Reach → Option ℕ
holder locks table reach = least (map (λ lock. lock.ticket) (filter (meets table reach) locks))

abbrev pub held : List Lock → ℕ → ℤ → Option ℕ
held locks table key = holder locks table (Keys (key ∷ []))

abbrev pub held_any : List Lock → ℕ → Option ℕ
held_any locks table = holder locks table Table

-- the tickets that hold anything, each once
abbrev pub open_tickets : List Lock → List ℕ
open_tickets [] = []
open_tickets (lock ∷ locks) = if list_any (λ other. other.ticket == lock.ticket) locks then open_tickets locks else lock.ticket ∷ open_tickets locks

-- ---- taking and releasing

abbrev pub lock_on : ℕ → ℕ → ℤ → Lock
lock_on ticket table key = record { ticket = ticket; table = table; key = Some key }

-- a lock on each key of the reach, or one on the table
abbrev pub locks_on : ℕ → ℕ → Reach → List Lock
locks_on ticket table (Keys keys) = map (lock_on ticket table) keys
locks_on ticket table Table = record { ticket = ticket; table = table; key = None } ∷ []

-- how many locks that takes
abbrev pub size : Reach → ℕ
size (Keys keys) = length keys
size Table = 1

-- the locks without those of a ticket
abbrev pub locks_without : ℕ → List Lock → List Lock
locks_without ticket locks = filter (λ lock. not (lock.ticket == ticket)) locks
