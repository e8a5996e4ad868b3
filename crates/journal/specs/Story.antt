-- A journal as clauses see it, and what its type keeps.
use Rattle.std.specs.Prelude.{◌≡◌, ◌⊎◌, ℕ, ◌+◌, ◌≤◌, List, [], ◌∷◌, ◌++◌, length, take, drop}
use Rattle.pg_io.specs.Disk.{Only, Within, LeavesOnly}
use Rattle.journal.specs.Records.{front, AreRecords, Reads, records_of}
use Rattle.journal.specs.declared.stage.Phase.{Phase}
use Rattle.journal.specs.declared.stage.Phase.TheVariants.{Reading, Standing, Fallen, Undecided}

pub record Story (D : Type 0) : Type 0 where
  pub disk : D
  -- the disk right after the sync that made or attached the journal
  pub start : D
  -- the records that it then had (while they are read, those that have been read)
  pub base : List (List ℕ)
  -- those appended since
  pub added : List (List ℕ)
  -- one whose append failed, and which an image may have
  pub pending : List (List ℕ)
  -- where the next gate stands
  pub gate : ℕ
  pub phase : Phase

-- a journal: its story, and for how many bytes of a record there is spare room
pub record Log (D : Type 0) : Type 0 where
  pub story : Story D
  pub room : ℕ

abbrev pub pending_of : List ℕ → ℕ → Phase → List (List ℕ)
pending_of file at Reading = []
pending_of file at Standing = []
pending_of file at Fallen = []
pending_of file at Undecided = drop (length (records_of (take at file))) (records_of (take at file ++ 1 ∷ drop (at + 1) file))

abbrev pub story_of : {D : Type 0} → (D → List ℕ) → D → D → ℕ → ℕ → Phase → Story D
story_of seen disk start first at phase = record {
  disk = disk;
  start = start;
  base = records_of (take first (seen start));
  added = drop (length (records_of (take first (seen start)))) (records_of (take at (seen disk)));
  pending = pending_of (seen disk) at phase;
  gate = at;
  phase = phase;
}

-- the file reads as these records, with those or without
abbrev pub IsAllBut : List (List ℕ) → List (List ℕ) → List ℕ → Type 0
IsAllBut rs pending c = Reads rs c ⊎ Reads (rs ++ pending) c

-- the file reads as the base and the first of these
abbrev pub IsFrontOf : List (List ℕ) → List (List ℕ) → List ℕ → Type 0
IsFrontOf base more c = (n : ℕ) × (n ≤ length more) × Reads (base ++ take n more) c

-- what a crash leaves, now and since the start
pub record Promises {D : Type 0} (moment : D → ℕ) (seen : D → List ℕ) (may_leave : D → List ℕ → Type 0) (left_since : D → ℕ → List ℕ → Type 0) (s : Story D) : Type 0 where
  -- the list that it had at the start
  pub begins : Reads s.base (seen s.start)
  -- every image now has all records, but perhaps one whose append failed
  pub now : Within (may_leave s.disk) (IsAllBut (s.base ++ s.added) s.pending)
  -- every image since the start has the list from then, and the first of those appended since
  pub since : Within (left_since s.disk (moment s.start)) (IsFrontOf s.base (s.added ++ s.pending))

-- the records are being read
pub record IsScanned {D : Type 0} (moment : D → ℕ) (seen : D → List ℕ) (left_since : D → ℕ → List ℕ → Type 0) (s : Story D) : Type 0 where
  pub none : s.added ≡ []
  pub same : seen s.disk ≡ seen s.start
  pub images : Only (seen s.disk) (left_since s.disk (moment s.start))
  pub behind : List ℕ
  pub text : seen s.disk ≡ front s.base ++ behind

pub record IsSettled {D : Type 0} (moment : D → ℕ) (seen : D → List ℕ) (may_leave : D → List ℕ → Type 0) (left_since : D → ℕ → List ℕ → Type 0) (s : Story D) : Type 0 where
  pub promises : Promises moment seen may_leave left_since s
  pub reads : Reads (s.base ++ s.added) (seen s.disk)
  pub durable : Only (seen s.disk) (may_leave s.disk)

abbrev pub ByPhase : {D : Type 0} → (D → ℕ) → (D → List ℕ) → (D → List ℕ → Type 0) → (D → ℕ → List ℕ → Type 0) → Story D → Phase → Type 0
ByPhase moment seen may_leave left_since s Reading = IsScanned moment seen left_since s
ByPhase moment seen may_leave left_since s Standing = IsSettled moment seen may_leave left_since s
ByPhase moment seen may_leave left_since s Fallen = Promises moment seen may_leave left_since s
ByPhase moment seen may_leave left_since s Undecided = Promises moment seen may_leave left_since s

pub record IsKept {D : Type 0} (moment : D → ℕ) (seen : D → List ℕ) (may_leave : D → List ℕ → Type 0) (left_since : D → ℕ → List ℕ → Type 0) (s : Story D) : Type 0 where
  pub place : s.gate ≡ length (front (s.base ++ s.added))
  pub records : AreRecords (s.base ++ s.added)
  pub later : moment s.start ≤ moment s.disk
  pub by_phase : ByPhase moment seen may_leave left_since s s.phase

-- What an append of this record did, whatever it answered.
pub record Appends {D : Type 0} (moment : D → ℕ) (left_since : D → ℕ → List ℕ → Type 0) (old new : Story D) (r : List ℕ) : Type 0 where
  pub start : new.start ≡ old.start
  pub base : new.base ≡ old.base
  pub pending : (new.pending ≡ []) ⊎ (new.pending ≡ r ∷ [])
  -- a crash at any moment of the call leaves the records from before it, with the new one or without
  pub any_moment : LeavesOnly moment left_since old.disk new.disk (IsAllBut (old.base ++ old.added) (r ∷ []))
