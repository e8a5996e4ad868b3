-- What reading to the end and writing whole pieces do to known bytes, and what is known of a source or a sink round a call.
use Rattle.std.specs.Prelude.{◌≡◌, ◌≢◌, ℕ, ◌<◌, ◌≤◌, List, [], ◌++◌, length, Option, IsSomeAnd}
use Rattle.std.specs.Io.KnownBytes.{Appends, Consumes, IsAtEnd}
use Rattle.pg_io.specs.Causes.{Rose}

-- What is known of a source or a sink before a call and after it: its bytes, where it tells them, and its count of faults. Of one that doesn't tell its bytes, what is said of bytes below holds of any bytes, and so says nothing.
pub record Known : Type 0 where
  pub before : Option (List ℕ)
  pub after : Option (List ℕ)
  pub faults_before : ℕ
  pub faults_after : ℕ

-- that record, from a trait's two meanings and the object before and after
abbrev pub known : {A : Type 0} → (A → Option (List ℕ)) → (A → ℕ) → A → A → Known
known told faults old new = record { before = told old; after = told new; faults_before = faults old; faults_after = faults new }

-- its known bytes and its count of faults are as they were
abbrev pub Untouched : Known → Type 0
Untouched k = (k.after ≡ k.before) × (k.faults_after ≡ k.faults_before)

-- its count of faults rose, or stands at its type's end
abbrev pub Faulted : Known → Type 0
Faulted k = Rose k.faults_before k.faults_after

-- no fault was counted
abbrev pub Quiet : Known → Type 0
Quiet k = k.faults_after ≡ k.faults_before

-- `whole` was written, and of `last` a front but not all of it, since a write failed
pub record Cut (output : Known) (whole last : List ℕ) : Type 0 where
  pub front : List ℕ
  pub missing : List ℕ
  pub split : last ≡ front ++ missing
  pub some : missing ≢ []
  pub written : Appends output.before output.after (whole ++ front)
  pub failed : Faulted output

-- the input was read to its end, and this is it
pub record ReadsWhole (old new : Option (List ℕ)) (text : List ℕ) : Type 0 where
  pub taken : Consumes old new text
  pub nothing_left : IsAtEnd new

-- some front of the input was read
abbrev pub ReadsFront : Option (List ℕ) → Option (List ℕ) → Type 0
ReadsFront old new = (front : List ℕ) × Consumes old new front

-- more bytes than the limit were read off the input
abbrev pub PassesLimit : ℕ → Option (List ℕ) → Option (List ℕ) → Type 0
PassesLimit limit old new = (front : List ℕ) × (limit < length front) × Consumes old new front

-- the input is known, and within a limit
abbrev pub IsWithin : ℕ → Option (List ℕ) → Type 0
IsWithin limit left = IsSomeAnd left (λ text. length text ≤ limit)

-- the input is known, and longer than a limit
abbrev pub IsBeyond : ℕ → Option (List ℕ) → Type 0
IsBeyond limit left = IsSomeAnd left (λ text. limit < length text)
