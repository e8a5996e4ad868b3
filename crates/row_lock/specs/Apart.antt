-- Locks of different tickets that hold no key in common.
use Rattle.std.specs.Prelude.{◌≡◌, ◌==◌, ℤ, Bool, true, ◌&&◌, List, [], ◌∷◌, Option, Some, None, ⊤}
use Rattle.std.specs.List.{AllByRecursion}
use Rattle.std.specs.Ordering.{int_eq}
use Rattle.row_lock.specs.declared.locks.Lock.{Lock}

-- A lock on a key holds it; a table that is held holds all its keys.
abbrev pub holds : Option ℤ → ℤ → Bool
holds None key = true
holds (Some other) key = int_eq other key

-- two locks of one table have a key in common
abbrev pub shares : Option ℤ → Option ℤ → Bool
shares one None = true
shares one (Some key) = holds one key

abbrev pub overlaps : Lock → Lock → Bool
overlaps one other = one.table == other.table && shares one.key other.key

-- what overlaps is one ticket's
abbrev pub IsApartFrom : Lock → Lock → Type 0
IsApartFrom one other = overlaps one other ≡ true → one.ticket ≡ other.ticket

abbrev pub AreApart : List Lock → Type 0
AreApart [] = ⊤
AreApart (lock ∷ locks) = AllByRecursion (IsApartFrom lock) locks × AreApart locks
