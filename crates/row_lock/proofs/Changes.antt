-- Who holds a key after some keys were taken, and after a ticket was released.
use Rattle.std.proofs.Common.{arith, ◌≡◌, ◌⊎◌, inl, inr, ℕ, ℤ, ◌==◌, Bool, true, false, ◌&&◌, ◌||◌, not, List, [], ◌∷◌, ◌++◌, Option, Some, None, map, refl, sym, ap, ◌∙◌, int_eq, int_cmp, Equal, Ordering, Less, Greater}
use Rattle.std.specs.Prelude.{if◌then◌else◌}
use Rattle.std.specs.List.{AllByRecursion, filter, flat_map, list_any}
use Rattle.std.specs.Ordering.{is_eq}
use Rattle.std.proofs.lemmas.Bool.Decides.{nat_tests}
use Rattle.std.proofs.lemmas.Cmp.{int_ranked}
use Rattle.row_lock.specs.declared.locks.Lock.{Lock}
use Rattle.row_lock.specs.declared.locks.Reach.{Reach}
use Rattle.row_lock.specs.declared.locks.Reach.TheVariants.{Keys, Table}
use Rattle.row_lock.specs.Apart.{AreApart, IsApartFrom, holds, overlaps, shares}
use Rattle.row_lock.specs.Holding.{held, holder, is_part, lesser, lock_on, locks_on, meets, locks_without}
use Rattle.row_lock.specs.Laws.{ReleasesEach, ReleasingFrees, TakingHolds, other_than, covers}
use Rattle.row_lock.proofs.Holders.{either}
use Rattle.row_lock.proofs.Keeping.{IsPast, all_past}

-- ---- releasing follows entries

append_more : {X : Type 0} (p : X → Bool) (x : X) (xs ys : List X) (b : Bool) → p x ≡ b → filter p (xs ++ ys) ≡ filter p xs ++ filter p ys → filter p ((x ∷ xs) ++ ys) ≡ filter p (x ∷ xs) ++ filter p ys
append_more p x xs ys true e rest = rw e (ap (λ more. x ∷ more) rest)
append_more p x xs ys false e rest = rw e rest

filter_append : {X : Type 0} (p : X → Bool) (xs ys : List X) → filter p (xs ++ ys) ≡ filter p xs ++ filter p ys
filter_append p [] ys = refl
filter_append p (x ∷ xs) ys = append_more p x xs ys (p x) refl (filter_append p xs ys)

released_keys : (ticket number table : ℕ) (keys : List ℤ) (b : Bool) → (number == ticket) ≡ b → locks_without ticket (map (lock_on number table) keys) ≡ (if b then [] else map (lock_on number table) keys)
released_keys ticket number table [] true e = refl
released_keys ticket number table [] false e = refl
released_keys ticket number table (key ∷ keys) true e = rw e (released_keys ticket number table keys true e)
released_keys ticket number table (key ∷ keys) false e = rw e (ap (λ more. lock_on number table key ∷ more) (released_keys ticket number table keys false e))

released_reach : (ticket number table : ℕ) (reach : Reach) (b : Bool) → (number == ticket) ≡ b → locks_without ticket (locks_on number table reach) ≡ (if b then [] else locks_on number table reach)
released_reach ticket number table (Keys keys) b e = released_keys ticket number table keys b e
released_reach ticket number table Table true e = rw e refl
released_reach ticket number table Table false e = rw e refl

module _ {X : Type 0} (number table : X → ℕ) (reach : X → Reach) (ticket : ℕ) where
  abbrev locks_of : X → List Lock
  locks_of x = locks_on (number x) (table x) (reach x)

  abbrev left : List X → List X
  left entries = filter (λ x. not (number x == ticket)) entries

  entries_more : (x : X) (xs : List X) (b : Bool) → (number x == ticket) ≡ b → locks_without ticket (flat_map locks_of xs) ≡ flat_map locks_of (left xs) → locks_without ticket (flat_map locks_of (x ∷ xs)) ≡ flat_map locks_of (left (x ∷ xs))
  entries_more x xs true e rest =
      filter_append (λ lock. not (lock.ticket == ticket)) (locks_of x) (flat_map locks_of xs) ∙ ap (λ mine. mine ++ locks_without ticket (flat_map locks_of xs)) (released_reach ticket (number x) (table x) (reach x) true e) ∙ rest ∙ rw e refl
  entries_more x xs false e rest =
      filter_append (λ lock. not (lock.ticket == ticket)) (locks_of x) (flat_map locks_of xs) ∙ ap (λ mine. mine ++ locks_without ticket (flat_map locks_of xs)) (released_reach ticket (number x) (table x) (reach x) false e) ∙ ap (λ more. locks_of x ++ more) rest ∙ rw e refl

  pub released_entries : (entries : List X) → locks_without ticket (flat_map locks_of entries) ≡ flat_map locks_of (left entries)
  released_entries [] = refl
  released_entries (x ∷ xs) = entries_more x xs (number x == ticket) refl (released_entries xs)

-- ---- taking

either_more : (n : ℕ) (one other : Option ℕ) → Some (lesser n (either one other)) ≡ either (Some (lesser n one)) other
either_more n None other = refl
either_more n (Some m) None = refl
either_more n (Some m) (Some k) = ap Some (omega arith)

either_none : (o : Option ℕ) → either o None ≡ o
either_none None = refl
either_none (Some n) = refl

holder_more : (table : ℕ) (reach : Reach) (lock : Lock) (xs ys : List Lock) (b : Bool) → meets table reach lock ≡ b
    → holder (xs ++ ys) table reach ≡ either (holder xs table reach) (holder ys table reach) → holder ((lock ∷ xs) ++ ys) table reach ≡ either (holder (lock ∷ xs) table reach) (holder ys table reach)
holder_more table reach lock xs ys true e rest = rw e (ap (λ o. Some (lesser lock.ticket o)) rest ∙ either_more lock.ticket (holder xs table reach) (holder ys table reach))
holder_more table reach lock xs ys false e rest = rw e rest

holder_append : (table : ℕ) (reach : Reach) (xs ys : List Lock) → holder (xs ++ ys) table reach ≡ either (holder xs table reach) (holder ys table reach)
holder_append table reach [] ys = refl
holder_append table reach (lock ∷ xs) ys = holder_more table reach lock xs ys (meets table reach lock) refl (holder_append table reach xs ys)

abbrev as_taken : ℕ → Bool → Option ℕ
as_taken ticket b = if b then Some ticket else None

joined : (ticket : ℕ) (b : Bool) → Some (lesser ticket (as_taken ticket b)) ≡ Some ticket
joined ticket true = ap Some (omega arith)
joined ticket false = refl

new_more : (ticket table other : ℕ) (key first : ℤ) (keys : List ℤ) (a b : Bool) → (table == other) ≡ a → int_eq first key ≡ b
    → held (map (lock_on ticket table) keys) other key ≡ as_taken ticket (a && list_any (λ k. int_eq k key) keys)
    → held (map (lock_on ticket table) (first ∷ keys)) other key ≡ as_taken ticket (a && (b || list_any (λ k. int_eq k key) keys))
new_more ticket table other key first keys true true e f rest = rw (e, f) (ap (λ o. Some (lesser ticket o)) rest ∙ joined ticket (list_any (λ k. int_eq k key) keys))
new_more ticket table other key first keys true false e f rest = rw (e, f) rest
new_more ticket table other key first keys false b e f rest = rw e rest

held_keys : (ticket table other : ℕ) (key : ℤ) (keys : List ℤ) (a : Bool) → (table == other) ≡ a → held (map (lock_on ticket table) keys) other key ≡ as_taken ticket (a && list_any (λ k. int_eq k key) keys)
held_keys ticket table other key [] true e = refl
held_keys ticket table other key [] false e = refl
held_keys ticket table other key (first ∷ keys) a e = new_more ticket table other key first keys a (int_eq first key) e refl (held_keys ticket table other key keys a e)

held_new : (ticket table other : ℕ) (reach : Reach) (key : ℤ) (a : Bool) → (table == other) ≡ a → held (locks_on ticket table reach) other key ≡ as_taken ticket (a && covers reach key)
held_new ticket table other (Keys keys) key a e = held_keys ticket table other key keys a e
held_new ticket table other Table key true e = rw e refl
held_new ticket table other Table key false e = rw e refl

both_true : (a b : Bool) → (a && b) ≡ true → (a ≡ true) × (b ≡ true)
both_true true b h = (refl, h)
both_true false b h = absurd (cc)

same_number : (m n : ℕ) → (m == n) ≡ true → m ≡ n
same_number m n h = grind (arith, nat_tests)

same_key : (x y : ℤ) → int_eq x y ≡ true → x ≡ y
same_key x y h = int_ranked x y Equal (sym (equal (int_cmp x y) h))
  where
    equal : (o : Ordering) → is_eq o ≡ true → o ≡ Equal
    equal Less h = absurd (cc)
    equal Equal h = refl
    equal Greater h = absurd (cc)

-- a lock that holds a key of the reach holds a part of it
part_more : (mine : Option ℤ) (key first : ℤ) (keys : List ℤ) (b : Bool) → int_eq first key ≡ b → holds mine key ≡ true → (b || list_any (λ k. int_eq k key) keys) ≡ true
    → (list_any (λ k. int_eq k key) keys ≡ true → list_any (holds mine) keys ≡ true) → list_any (holds mine) (first ∷ keys) ≡ true
part_more mine key first keys true e held_it some rest = ap (λ k. holds mine k || list_any (holds mine) keys) (same_key first key e) ∙ ap (λ b. b || list_any (holds mine) keys) held_it
part_more mine key first keys false e held_it some rest = ap (λ b. holds mine first || b) (rest some) ∙ or_true (holds mine first)
  where
    or_true : (b : Bool) → (b || true) ≡ true
    or_true true = refl
    or_true false = refl

part_keys : (mine : Option ℤ) (key : ℤ) (keys : List ℤ) → holds mine key ≡ true → list_any (λ k. int_eq k key) keys ≡ true → list_any (holds mine) keys ≡ true
part_keys mine key [] held_it some = some
part_keys mine key (first ∷ keys) held_it some = part_more mine key first keys (int_eq first key) refl held_it some (part_keys mine key keys held_it)

part_of : (reach : Reach) (mine : Option ℤ) (key : ℤ) → holds mine key ≡ true → covers reach key ≡ true → is_part reach mine ≡ true
part_of (Keys keys) mine key held_it some = part_keys mine key keys held_it some
part_of Table mine key held_it some = refl

or_false : (b : Bool) → (b || false) ≡ b
or_false true = refl
or_false false = refl

both_are : (a b : Bool) → a ≡ true → b ≡ true → (a && b) ≡ true
both_are true b h k = k
both_are false b h k = absurd (cc)

-- a lock on the key is one on the reach
reached : (table other : ℕ) (reach : Reach) (key : ℤ) (lock : Lock) → table ≡ other → covers reach key ≡ true → meets other (Keys (key ∷ [])) lock ≡ true → meets table reach lock ≡ true
reached table other reach key lock same some met =
    let two = both_true (lock.table == other) (holds lock.key key || false) met in
    both_are (lock.table == table) (is_part reach lock.key) (ap (λ n. lock.table == n) same ∙ two.0) (part_of reach lock.key key (sym (or_false (holds lock.key key)) ∙ two.1) some)

free_more : (table other : ℕ) (reach : Reach) (key : ℤ) (lock : Lock) (locks : List Lock) (b : Bool) → meets other (Keys (key ∷ [])) lock ≡ b → table ≡ other → covers reach key ≡ true → IsPast table reach lock
    → held locks other key ≡ None → held (lock ∷ locks) other key ≡ None
free_more table other reach key lock locks true e same some past rest = absurd (let met = reached table other reach key lock same some e in cc)
free_more table other reach key lock locks false e same some past rest = rw e rest

free_key : (table other : ℕ) (reach : Reach) (key : ℤ) (locks : List Lock) → table ≡ other → covers reach key ≡ true → AllByRecursion (IsPast table reach) locks → held locks other key ≡ None
free_key table other reach key [] same some past = refl
free_key table other reach key (lock ∷ locks) same some past = free_more table other reach key lock locks (meets other (Keys (key ∷ [])) lock) refl same some past.0 (free_key table other reach key locks same some past.1)

pub taking_holds : TakingHolds
taking_holds locks ticket table reach free other key =
    holder_append other (Keys (key ∷ [])) locks (locks_on ticket table reach)
    ∙ ap (either (held locks other key)) (held_new ticket table other reach key (table == other) refl)
    ∙ by_test (table == other && covers reach key) refl
  where
    by_test : (b : Bool) → (table == other && covers reach key) ≡ b → either (held locks other key) (as_taken ticket b) ≡ (if b then Some ticket else held locks other key)
    by_test true e =
        let two = both_true (table == other) (covers reach key) e in
        ap (λ o. either o (Some ticket)) (free_key table other reach key locks (same_number table other two.0) two.1 (all_past table reach locks free))
    by_test false e = either_none (held locks other key)

-- ---- releasing

-- what holds the key is this ticket's
abbrev IsOnes : ℕ → ℤ → ℕ → Lock → Type 0
IsOnes table key n lock = meets table (Keys (key ∷ [])) lock ≡ true → n ≡ lock.ticket

overlap_at : (one other : Lock) (table : ℕ) (key : ℤ) → meets table (Keys (key ∷ [])) one ≡ true → meets table (Keys (key ∷ [])) other ≡ true → overlaps one other ≡ true
overlap_at one other table key met also =
    let mine = both_true (one.table == table) (holds one.key key || false) met in
    let its = both_true (other.table == table) (holds other.key key || false) also in
    let same : (one.table == other.table) ≡ true = ap (λ n. one.table == n) (same_number other.table table its.0) ∙ mine.0 in
    both_are (one.table == other.table) (shares one.key other.key) same (shared one.key other.key (sym (or_false (holds one.key key)) ∙ mine.1) (sym (or_false (holds other.key key)) ∙ its.1))
  where
    shared : (x y : Option ℤ) → holds x key ≡ true → holds y key ≡ true → shares x y ≡ true
    shared x None h k = refl
    shared x (Some other_key) h k = ap (holds x) (same_key other_key key k) ∙ h

all_ones : (table : ℕ) (key : ℤ) (one : Lock) (locks : List Lock) → meets table (Keys (key ∷ [])) one ≡ true → AllByRecursion (IsApartFrom one) locks → AllByRecursion (IsOnes table key one.ticket) locks
all_ones table key one [] met apart = tt
all_ones table key one (lock ∷ locks) met apart = ((λ also. apart.0 (overlap_at one lock table key met also)), all_ones table key one locks met apart.1)

-- nobody or this ticket
abbrev IsNoneOr : ℕ → Option ℕ → Type 0
IsNoneOr n o = (o ≡ None) ⊎ (o ≡ Some n)

abbrev IsFreed : ℕ → ℕ → ℤ → ℕ → List Lock → Type 0
IsFreed ticket table key n locks = (held (locks_without ticket locks) table key ≡ other_than ticket (held locks table key)) × IsNoneOr n (held locks table key)

alone : (n : ℕ) (o : Option ℕ) → IsNoneOr n o → Some (lesser n o) ≡ Some n
alone n o (inl e) = ap (λ x. Some (lesser n x)) e
alone n o (inr e) = ap (λ x. Some (lesser n x)) e ∙ ap Some (omega arith)

gone : (ticket n : ℕ) (o : Option ℕ) → (n == ticket) ≡ true → IsNoneOr n o → other_than ticket o ≡ None
gone ticket n o same (inl e) = ap (other_than ticket) e
gone ticket n o same (inr e) = ap (other_than ticket) e ∙ rw same refl

kept : (ticket n : ℕ) (o : Option ℕ) → (n == ticket) ≡ false → IsNoneOr n o → other_than ticket o ≡ o
kept ticket n o other (inl e) = ap (other_than ticket) e ∙ sym e
kept ticket n o other (inr e) = ap (other_than ticket) e ∙ rw other (sym e)

freed_more : (ticket table : ℕ) (key : ℤ) (n : ℕ) (lock : Lock) (locks : List Lock) (a b : Bool) → meets table (Keys (key ∷ [])) lock ≡ a → (lock.ticket == ticket) ≡ b → IsOnes table key n lock → IsFreed ticket table key n locks
    → IsFreed ticket table key n (lock ∷ locks)
freed_more ticket table key n lock locks true true e f ones rest =
    let mine : n ≡ lock.ticket = ones e in
    let is : held (lock ∷ locks) table key ≡ Some n = rw e (ap (λ m. Some (lesser m (held locks table key))) (sym mine) ∙ alone n (held locks table key) rest.1) in
    let same : (n == ticket) ≡ true = ap (λ m. m == ticket) mine ∙ f in
    let none : held (locks_without ticket (lock ∷ locks)) table key ≡ None = rw f (rest.0 ∙ gone ticket n (held locks table key) same rest.1) in
    let out : other_than ticket (Some n) ≡ None = rw same refl in
    (none ∙ sym (ap (other_than ticket) is ∙ out), inr is)
freed_more ticket table key n lock locks true false e f ones rest =
    let mine : n ≡ lock.ticket = ones e in
    let is : held (lock ∷ locks) table key ≡ Some n = rw e (ap (λ m. Some (lesser m (held locks table key))) (sym mine) ∙ alone n (held locks table key) rest.1) in
    let other : (n == ticket) ≡ false = ap (λ m. m == ticket) mine ∙ f in
    let still : held (locks_without ticket locks) table key ≡ held locks table key = rest.0 ∙ kept ticket n (held locks table key) other rest.1 in
    let some : held (locks_without ticket (lock ∷ locks)) table key ≡ Some n = rw (f, e) (ap (λ o. Some (lesser lock.ticket o)) still ∙ ap (λ m. Some (lesser m (held locks table key))) (sym mine) ∙ alone n (held locks table key) rest.1) in
    let out : other_than ticket (Some n) ≡ Some n = rw other refl in
    (some ∙ sym (ap (other_than ticket) is ∙ out), inr is)
freed_more ticket table key n lock locks false true e f ones rest = rw (f, e) rest
freed_more ticket table key n lock locks false false e f ones rest = rw (f, e) rest

freed : (ticket table : ℕ) (key : ℤ) (n : ℕ) (locks : List Lock) → AllByRecursion (IsOnes table key n) locks → IsFreed ticket table key n locks
freed ticket table key n [] ones = (refl, inl refl)
freed ticket table key n (lock ∷ locks) ones = freed_more ticket table key n lock locks (meets table (Keys (key ∷ [])) lock) (lock.ticket == ticket) refl refl ones.0 (freed ticket table key n locks ones.1)

frees_more : (ticket table : ℕ) (key : ℤ) (lock : Lock) (locks : List Lock) (a b : Bool) → meets table (Keys (key ∷ [])) lock ≡ a → (lock.ticket == ticket) ≡ b → AreApart (lock ∷ locks)
    → held (locks_without ticket locks) table key ≡ other_than ticket (held locks table key) → held (locks_without ticket (lock ∷ locks)) table key ≡ other_than ticket (held (lock ∷ locks) table key)
frees_more ticket table key lock locks true b e f apart rest = (freed ticket table key lock.ticket (lock ∷ locks) ((λ _. refl), all_ones table key lock locks e apart.0)).0
frees_more ticket table key lock locks false true e f apart rest = rw (f, e) rest
frees_more ticket table key lock locks false false e f apart rest = rw (f, e) rest

pub releasing_frees : ReleasingFrees
releasing_frees [] ticket table key apart = refl
releasing_frees (lock ∷ locks) ticket table key apart = frees_more ticket table key lock locks (meets table (Keys (key ∷ [])) lock) (lock.ticket == ticket) refl refl apart (releasing_frees locks ticket table key apart.1)

pub releases_each : (X : Type 0) → ReleasesEach X
releases_each X number table reach entries ticket = released_entries number table reach ticket entries
