-- The least holder, lock by lock.
use Rattle.std.proofs.Common.{◌≡◌, ℕ, true, false, Option, Some, None, List, ◌∷◌, refl, sym, ap, arith}
use Rattle.row_lock.specs.declared.locks.Lock.{Lock}
use Rattle.row_lock.specs.declared.locks.Reach.{Reach}
use Rattle.row_lock.specs.Holding.{holder, lesser, meets}

-- the lesser of two that may be there
abbrev pub either : Option ℕ → Option ℕ → Option ℕ
either None other = other
either (Some n) other = Some (lesser n other)

pub either_least : (n : ℕ) (one other : Option ℕ) → either (Some (lesser n one)) other ≡ either one (Some (lesser n other))
either_least n None None = refl
either_least n None (Some k) = refl
either_least n (Some m) None = ap Some (omega arith)
either_least n (Some m) (Some k) = ap Some (omega arith)

pub holder_met : (table : ℕ) (reach : Reach) (so_far : Option ℕ) (lock : Lock) (locks : List Lock) → meets table reach lock ≡ true → either so_far (holder (lock ∷ locks) table reach) ≡ either (Some (lesser lock.ticket so_far)) (holder locks table reach)
holder_met table reach so_far lock locks met = rw met (sym (either_least lock.ticket so_far (holder locks table reach)))

pub holder_passed : (table : ℕ) (reach : Reach) (so_far : Option ℕ) (lock : Lock) (locks : List Lock) → meets table reach lock ≡ false → either so_far (holder (lock ∷ locks) table reach) ≡ either so_far (holder locks table reach)
holder_passed table reach so_far lock locks met = rw met refl
