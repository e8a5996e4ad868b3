-- Laws of known bytes, of counts of faults and of limits, which the proofs of each crate cite.
use Rattle.std.proofs.Common.{◌≡◌, ◌⊎◌, ℕ, ◌≤◌, List, [], ◌++◌, length, Option, None, Some, Result, Ok, Err, IsOk, IsErrOf, IfOk, inl, inr, sym, refl, ap, ◌∙◌, arith, append_assoc, append-nil, length-append}
use Rattle.std.specs.Io.KnownBytes.{Appends, Consumes, Keeps}
use Rattle.pg_io.specs.declared.whole.InputFault.{InputFault}
use Rattle.pg_io.specs.declared.whole.InputFault.TheVariants.{Failed, TooLong, NoMemory}
use Rattle.pg_io.specs.Causes.{Rose}
use Rattle.pg_io.specs.Outside.{ReadsWhole, PassesLimit, IsWithin, IsBeyond}

-- ---- what is written

-- nothing was appended
pub appends_none : (before : Option (List ℕ)) → Appends before before []
appends_none None = tt
appends_none (Some xs) = sym (append-nil xs)

-- a piece behind what was appended
pub appends_more : (before middle now : Option (List ℕ)) (xs ys zs : List ℕ) → xs ++ ys ≡ zs → Appends before middle xs → Appends middle now ys → Appends before now zs
appends_more None middle now xs ys zs e p q = tt
appends_more (Some ws) None now xs ys zs e p q = absurd p
appends_more (Some ws) (Some bs) None xs ys zs e p q = absurd q
appends_more (Some ws) (Some bs) (Some cs) xs ys zs e p q = q ∙ ap (λ z. z ++ ys) p ∙ append_assoc ws xs ys ∙ ap (λ z. ws ++ z) e

-- nothing behind what was appended
pub appends_kept : (before middle now : Option (List ℕ)) (xs : List ℕ) → Appends before middle xs → Keeps middle now → Appends before now xs
appends_kept None middle now xs p q = tt
appends_kept (Some ws) None now xs p q = absurd p
appends_kept (Some ws) (Some bs) None xs p q = absurd q
appends_kept (Some ws) (Some bs) (Some cs) xs p q = q ∙ p

-- something appended where nothing was done before
pub kept_appends : (before middle now : Option (List ℕ)) (xs : List ℕ) → Keeps before middle → Appends middle now xs → Appends before now xs
kept_appends None middle now xs p q = tt
kept_appends (Some ws) None now xs p q = absurd p
kept_appends (Some ws) (Some bs) None xs p q = absurd q
kept_appends (Some ws) (Some bs) (Some cs) xs p q = q ∙ ap (λ z. z ++ xs) p

-- ---- what is read

-- nothing was taken
pub consumes_none : (before : Option (List ℕ)) → Consumes before before []
consumes_none None = tt
consumes_none (Some xs) = refl

-- a piece behind what was taken
pub consumes_more : (before middle now : Option (List ℕ)) (xs ys : List ℕ) → Consumes before middle xs → Consumes middle now ys → Consumes before now (xs ++ ys)
consumes_more None middle now xs ys p q = tt
consumes_more (Some ws) None now xs ys p q = absurd p
consumes_more (Some ws) (Some bs) None xs ys p q = absurd q
consumes_more (Some ws) (Some bs) (Some cs) xs ys p q = p ∙ ap (λ z. xs ++ z) q ∙ sym (append_assoc xs ys cs)

-- nothing behind what was taken
pub consumes_kept : (before middle now : Option (List ℕ)) (xs : List ℕ) → Consumes before middle xs → Keeps middle now → Consumes before now xs
consumes_kept None middle now xs p q = tt
consumes_kept (Some ws) None now xs p q = absurd p
consumes_kept (Some ws) (Some bs) None xs p q = absurd q
consumes_kept (Some ws) (Some bs) (Some cs) xs p q = p ∙ ap (λ z. xs ++ z) (sym q)

-- ---- counts of faults

-- what rose since a later moment rose since an earlier one
pub rose_since : (a b c : ℕ) → a ≤ b → Rose b c → Rose a c
rose_since a b c later rose = omega arith

-- what rose up to an earlier moment rose up to a later one
pub rose_before : (a b c : ℕ) → Rose a b → b ≤ c → Rose a c
rose_before a b c rose later = omega arith

-- ---- limits

-- what is within a limit doesn't pass it
pub within_passes : (limit : ℕ) (before now : Option (List ℕ)) → IsWithin limit before → PassesLimit limit before now → ⊥
within_passes limit None now within passes = within
within_passes limit (Some text) None within (front, long, taken) = taken
within_passes limit (Some text) (Some rest) within (front, long, taken) = absurd (omega (arith, ap length taken, length-append front rest))

-- what is beyond a limit isn't read whole within it
pub beyond_whole : (limit : ℕ) (before now : Option (List ℕ)) (text : List ℕ) → IsBeyond limit before → ReadsWhole before now text → length text ≤ limit → ⊥
beyond_whole limit None now text beyond whole short = beyond
beyond_whole limit (Some all) None text beyond whole short = whole.taken
beyond_whole limit (Some all) (Some rest) text beyond whole short =
    absurd (omega (arith, ap length whole.taken, length-append text rest, ap length whole.nothing_left))

-- an input within the limit, where nothing failed
pub read_within : {T : Type 0} (limit a b : ℕ) (before now : Option (List ℕ)) (result : Result T InputFault)
    → (IsErrOf result Failed → Rose a b) → (IsErrOf result TooLong → PassesLimit limit before now)
    → IsWithin limit before → ¬ Rose a b → IsOk result ⊎ IsErrOf result NoMemory
read_within limit a b before now (Ok text) failed long within never = inl refl
read_within limit a b before now (Err Failed) failed long within never = absurd (never (failed refl))
read_within limit a b before now (Err TooLong) failed long within never = absurd (within_passes limit before now within (long refl))
read_within limit a b before now (Err NoMemory) failed long within never = inr refl

-- an input beyond the limit, where nothing failed
pub read_beyond : {T : Type 0} (items : T → List ℕ) (limit a b : ℕ) (before now : Option (List ℕ)) (result : Result T InputFault)
    → (IfOk result (λ text. ReadsWhole before now (items text))) → (IfOk result (λ text. length (items text) ≤ limit)) → (IsErrOf result Failed → Rose a b)
    → IsBeyond limit before → ¬ Rose a b → IsErrOf result TooLong ⊎ IsErrOf result NoMemory
read_beyond items limit a b before now (Ok text) whole short failed beyond never = absurd (beyond_whole limit before now (items text) beyond whole short)
read_beyond items limit a b before now (Err Failed) whole short failed beyond never = absurd (never (failed refl))
read_beyond items limit a b before now (Err TooLong) whole short failed beyond never = inl refl
read_beyond items limit a b before now (Err NoMemory) whole short failed beyond never = inr refl
