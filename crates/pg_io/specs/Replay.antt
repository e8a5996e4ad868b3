-- A disk in memory, as its calls made it.
use Rattle.std.specs.Prelude.{◌≡◌, ◌⊎◌, ℕ, ◌+◌, ◌/◌, ◌≤◌, List, [], ◌∷◌, ◌++◌, length, take, drop, Vec, Result, OnOk, OnErr, Contains, IsErr, refl}
use Rattle.std.specs.declared.alloc.Global.{Global}
use Rattle.pg_io.specs.Disk.{Torn, Shortened}
use mathlib.Core.Logic.{inl}
use Rattle.std.proofs.Common.{sym, ap, subst, ◌∙◌, arith}
use Rattle.pg_io.specs.Causes.{one_more}
use Rattle.pg_io.specs.declared.recorded.Call.{Call}
use Rattle.pg_io.specs.declared.recorded.Call.TheVariants.{Wrote, Cut, Synced}

pub record DiskInMemory : Type 0 where
  -- what the disk held at first
  pub first : List ℕ
  -- the calls that changed it since, in order
  pub calls : List Call
  -- how many calls were made
  pub made : ℕ
  -- the numbers of the calls that are to fail, the first call being 0
  pub failing : List ℕ
  -- how many calls failed
  pub faults : ℕ

-- what a read gives after a call
abbrev pub done : List ℕ → Call → List ℕ
done f (Wrote at bytes) = take at f ++ bytes.items ++ drop (at + length bytes.items) f
done f (Cut n) = take n f
done f Synced = f

-- what a crash may leave after it, of what it might have left before
abbrev pub left : (List ℕ → Type 0) → List ℕ → Call → List ℕ → Type 0
left I f (Wrote at bytes) c = (c ≡ done f (Wrote at bytes)) ⊎ ((d : List ℕ) × I d × Torn at (length bytes.items) d c)
left I f (Cut n) c = (c ≡ done f (Cut n)) ⊎ ((d : List ℕ) × I d × Shortened n d c)
left I f Synced c = c ≡ f

-- what a read gives after these calls
abbrev pub replay : List ℕ → List Call → List ℕ
replay f [] = f
replay f (x ∷ xs) = replay (done f x) xs

abbrev pub leaves : (List ℕ → Type 0) → List ℕ → List Call → List ℕ → Type 0
leaves I f [] c = I c
leaves I f (x ∷ xs) c = leaves (left I f x) (done f x) xs c

-- what a crash may leave after these calls: at first the disk holds these bytes
abbrev pub image : List ℕ → List Call → List ℕ → Type 0
image first calls c = leaves (λ d. d ≡ first) first calls c

-- at some moment from t on
abbrev pub image_since : List ℕ → List Call → ℕ → List ℕ → Type 0
image_since first calls t c = (k : ℕ) × (t ≤ k) × (k ≤ length calls) × image first (take k calls) c

-- ---- the meanings of a disk in memory

abbrev pub seen_of : DiskInMemory → List ℕ
seen_of m = replay m.first m.calls

abbrev pub images_of : DiskInMemory → List ℕ → Type 0
images_of m c = image m.first m.calls c

abbrev pub moment_of : DiskInMemory → ℕ
moment_of m = length m.calls

abbrev pub since_of : DiskInMemory → ℕ → List ℕ → Type 0
since_of m t c = image_since m.first m.calls t c

-- ---- what a call does to it

-- nothing was changed but the counts
abbrev pub Same : DiskInMemory → DiskInMemory → Type 0
Same old new = (new.first ≡ old.first) × (new.calls ≡ old.calls)

-- this call was made
abbrev pub Made : Call → DiskInMemory → DiskInMemory → Type 0
Made x old new = (new.first ≡ old.first) × (new.calls ≡ old.calls ++ x ∷ [])

-- this call was made, or nothing was changed
abbrev pub MayMake : Call → DiskInMemory → DiskInMemory → Type 0
MayMake x old new = Same old new ⊎ Made x old new

-- just these bytes were written
abbrev pub Writes : ℕ → List ℕ → DiskInMemory → DiskInMemory → Type 0
Writes at bytes old new = (v : Vec ℕ Global) × (v.items ≡ bytes) × Made (Wrote at v) old new

-- at most n bytes were written
abbrev pub MayWrite : ℕ → ℕ → DiskInMemory → DiskInMemory → Type 0
MayWrite at n old new = Same old new ⊎ ((front : List ℕ) × (length front ≤ n) × Writes at front old new)

-- a write that failed left the front half of its bytes, or nothing
abbrev pub MayWriteHalf : ℕ → List ℕ → DiskInMemory → DiskInMemory → Type 0
MayWriteHalf at bytes old new = Same old new ⊎ Writes at (take (length bytes / 2) bytes) old new

-- just these bytes were written, and nothing was counted
abbrev pub Puts : ℕ → List ℕ → DiskInMemory → DiskInMemory → Type 0
Puts at bytes old new = (v : Vec ℕ Global) × (v.items ≡ bytes) × (new ≡ record old { calls = old.calls ++ Wrote at v ∷ [] })

-- A call is counted. It fails where its number is listed, and each failure is counted.
pub record Counts {T E : Type 0} (old new : DiskInMemory) (result : Result T E) : Type 0 where
  pub due : Contains old.failing old.made → IsErr result
  pub failing : new.failing ≡ old.failing
  pub made : new.made ≡ one_more old.made
  pub passed : OnOk result (new.faults ≡ old.faults)
  pub failed : OnErr result (new.faults ≡ one_more old.faults)
  pub later : old.faults ≤ new.faults

-- ---- the laws

kept_read : (I : List ℕ → Type 0) (f : List ℕ) (x : Call) → I f → left I f x (done f x)
kept_read I f (Wrote at bytes) is = inl refl
kept_read I f (Cut n) is = inl refl
kept_read I f Synced is = refl

reads_all : (I : List ℕ → Type 0) (f : List ℕ) (xs : List Call) → I f → leaves I f xs (replay f xs)
reads_all I f [] is = is
reads_all I f (x ∷ xs) is = reads_all (left I f x) (done f x) xs (kept_read I f x is)

-- the disk as it reads is one of its images
pub reads_image : (first : List ℕ) (calls : List Call) → image first calls (replay first calls)
reads_image first calls = reads_all (λ d. d ≡ first) first calls refl

take_whole : (calls : List Call) → take (length calls) calls ≡ calls
take_whole [] = refl
take_whole (x ∷ xs) = ap (λ (l : List Call). x ∷ l) (take_whole xs)

-- this moment is one of those since an earlier one
pub counts_image : (first : List ℕ) (calls : List Call) (t : ℕ) (c : List ℕ) → t ≤ length calls → image first calls c → image_since first calls t c
counts_image first calls t c le now = (length calls, le, le_refl, subst (λ (l : List Call). image first l c) (sym (take_whole calls)) now)
  where
    le_refl : length calls ≤ length calls
    le_refl = omega arith

-- since this moment there is no other
pub only_image : (first : List ℕ) (calls : List Call) (c : List ℕ) → image_since first calls (length calls) c → image first calls c
only_image first calls c (k, from, to, now) =
    let last : k ≡ length calls = omega (arith, from, to) in
    subst (λ (l : List Call). image first l c) (ap (λ (n : ℕ). take n calls) last ∙ take_whole calls) now
