-- Locks stay apart where some are taken of which none is held, and where some are released.
use Rattle.std.proofs.Common.{◌≡◌, ℕ, ℤ, ◌==◌, Bool, true, false, ◌&&◌, ◌||◌, List, [], ◌∷◌, ◌++◌, Option, Some, None, map, refl}
use Rattle.std.specs.List.{AllByRecursion, filter, list_any}
use Rattle.row_lock.specs.declared.locks.Lock.{Lock}
use Rattle.row_lock.specs.declared.locks.Reach.{Reach}
use Rattle.row_lock.specs.declared.locks.Reach.TheVariants.{Keys, Table}
use Rattle.row_lock.specs.Apart.{AreApart, IsApartFrom, holds, shares}
use Rattle.row_lock.specs.Holding.{holder, lock_on, locks_on, meets}

-- ---- lists

filter_more : {X : Type 0} (P : X → Type 0) (p : X → Bool) (x : X) (xs : List X) (b : Bool) → p x ≡ b → P x → AllByRecursion P (filter p xs) → AllByRecursion P (filter p (x ∷ xs))
filter_more P p x xs true e here rest = rw e (here, rest)
filter_more P p x xs false e here rest = rw e rest

all_filter : {X : Type 0} (P : X → Type 0) (p : X → Bool) (xs : List X) → AllByRecursion P xs → AllByRecursion P (filter p xs)
all_filter P p [] h = tt
all_filter P p (x ∷ xs) h = filter_more P p x xs (p x) refl h.0 (all_filter P p xs h.1)

all_append : {X : Type 0} (P : X → Type 0) (xs ys : List X) → AllByRecursion P xs → AllByRecursion P ys → AllByRecursion P (xs ++ ys)
all_append P [] ys h k = k
all_append P (x ∷ xs) ys h k = (h.0, all_append P xs ys h.1 k)

-- ---- releasing

apart_more : (p : Lock → Bool) (lock : Lock) (locks : List Lock) (b : Bool) → p lock ≡ b → AllByRecursion (IsApartFrom lock) (filter p locks) → AreApart (filter p locks) → AreApart (filter p (lock ∷ locks))
apart_more p lock locks true e here rest = rw e (here, rest)
apart_more p lock locks false e here rest = rw e rest

pub apart_filter : (p : Lock → Bool) (locks : List Lock) → AreApart locks → AreApart (filter p locks)
apart_filter p [] h = tt
apart_filter p (lock ∷ locks) h = apart_more p lock locks (p lock) refl (all_filter (IsApartFrom lock) p locks h.0) (apart_filter p locks h.1)

-- ---- taking

-- the lock doesn't hold any part of the reach
abbrev pub IsPast : ℕ → Reach → Lock → Type 0
IsPast table reach lock = meets table reach lock ≡ false

past_more : (table : ℕ) (reach : Reach) (lock : Lock) (locks : List Lock) (b : Bool) → meets table reach lock ≡ b → holder (lock ∷ locks) table reach ≡ None
    → (holder locks table reach ≡ None → AllByRecursion (IsPast table reach) locks) → AllByRecursion (IsPast table reach) (lock ∷ locks)
past_more table reach lock locks true e free rest = absurd (let h = rw e at free in cc)
past_more table reach lock locks false e free rest = (e, rest (rw e at free))

pub all_past : (table : ℕ) (reach : Reach) (locks : List Lock) → holder locks table reach ≡ None → AllByRecursion (IsPast table reach) locks
all_past table reach [] free = tt
all_past table reach (lock ∷ locks) free = past_more table reach lock locks (meets table reach lock) refl free (all_past table reach locks)

split_and : (a b c : Bool) → (a && (b || c)) ≡ false → ((a && b) ≡ false) × ((a && c) ≡ false)
split_and true true c e = absurd (cc)
split_and true false c e = (refl, e)
split_and false b c e = (refl, refl)

never : {A : Type 0} (b : Bool) → b ≡ false → b ≡ true → A
never b f t = absurd (cc)

shares_all : (held : Option ℤ) → shares held None ≡ true
shares_all None = refl
shares_all (Some key) = refl

-- a lock on no part of the reach is apart from each lock on it
apart_new_keys : (ticket table : ℕ) (keys : List ℤ) (lock : Lock) → IsPast table (Keys keys) lock → AllByRecursion (IsApartFrom lock) (locks_on ticket table (Keys keys))
apart_new_keys ticket table [] lock past = tt
apart_new_keys ticket table (key ∷ keys) lock past =
    let both = split_and (lock.table == table) (holds lock.key key) (list_any (holds lock.key) keys) past in
    ((λ met. never _ both.0 met), apart_new_keys ticket table keys lock both.1)

apart_new : (ticket table : ℕ) (reach : Reach) (lock : Lock) → IsPast table reach lock → AllByRecursion (IsApartFrom lock) (locks_on ticket table reach)
apart_new ticket table (Keys keys) lock past = apart_new_keys ticket table keys lock past
apart_new ticket table Table lock past = ((λ met. never _ past met), tt)

-- the new locks are one ticket's
one_ticket : (ticket table : ℕ) (lock : Lock) (keys : List ℤ) → lock.ticket ≡ ticket → AllByRecursion (IsApartFrom lock) (map (lock_on ticket table) keys)
one_ticket ticket table lock [] same = tt
one_ticket ticket table lock (key ∷ keys) same = ((λ met. same), one_ticket ticket table lock keys same)

apart_keys : (ticket table : ℕ) (keys : List ℤ) → AreApart (map (lock_on ticket table) keys)
apart_keys ticket table [] = tt
apart_keys ticket table (key ∷ keys) = (one_ticket ticket table (lock_on ticket table key) keys refl, apart_keys ticket table keys)

apart_among : (ticket table : ℕ) (reach : Reach) → AreApart (locks_on ticket table reach)
apart_among ticket table (Keys keys) = apart_keys ticket table keys
apart_among ticket table Table = (tt, tt)

apart_past : (ticket table : ℕ) (reach : Reach) (locks : List Lock) → AreApart locks → AllByRecursion (IsPast table reach) locks → AreApart (locks ++ locks_on ticket table reach)
apart_past ticket table reach [] apart past = apart_among ticket table reach
apart_past ticket table reach (lock ∷ locks) apart past =
    (all_append (IsApartFrom lock) locks (locks_on ticket table reach) apart.0 (apart_new ticket table reach lock past.0), apart_past ticket table reach locks apart.1 past.1)

pub apart_taken : (ticket table : ℕ) (reach : Reach) (locks : List Lock) → AreApart locks → holder locks table reach ≡ None → AreApart (locks ++ locks_on ticket table reach)
apart_taken ticket table reach locks apart free = apart_past ticket table reach locks apart (all_past table reach locks free)
