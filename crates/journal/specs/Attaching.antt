-- What attaching to a disk answers.
use Rattle.std.specs.Prelude.{◌≡◌, ◌≢◌, ℕ, ◌≤◌, List, [], take}
use Rattle.pg_io.specs.Causes.{Rose}
use Rattle.pg_io.specs.Disk.{Only, Within}
use Rattle.journal.specs.Records.{head}
use Rattle.journal.specs.Story.{Story}
use Rattle.journal.specs.declared.stage.Phase.TheVariants.{Reading}
use Rattle.journal.specs.declared.gates.Attached.{Attached}
use Rattle.journal.specs.declared.gates.Attached.TheVariants.{Ready, Empty, NotJournal, Failed}

-- the disk in an answer
abbrev pub disk_of : {D : Type 0} → Attached D → D
disk_of (Ready journal) = journal.story.disk
disk_of (Empty disk) = disk
disk_of (NotJournal disk) = disk
disk_of (Failed disk) = disk

-- no record of the journal was read yet
pub record Opens {D : Type 0} (moment : D → ℕ) (seen : D → List ℕ) (disk : D) (s : Story D) : Type 0 where
  pub base : s.base ≡ []
  pub added : s.added ≡ []
  -- its start is a moment of the call, right after the sync
  pub start : seen s.start ≡ seen disk
  pub later : moment disk ≤ moment s.start

-- A journal begins with its eight bytes; an empty disk has none; any other isn't a journal.
abbrev pub WhyAttached : {D : Type 0} → (D → ℕ) → (D → List ℕ) → D → Attached D → Type 0
WhyAttached moment seen disk (Ready journal) = (take 8 (seen disk) ≡ head) × Opens moment seen disk journal.story
WhyAttached moment seen disk (Empty same) = seen disk ≡ []
WhyAttached moment seen disk (NotJournal same) = (seen disk ≢ []) × (take 8 (seen disk) ≢ head)
WhyAttached moment seen disk (Failed same) = Unit {0}

-- what a crash leaves after it: where all was sure, just what a read gives; else nothing more than before
abbrev pub LeavesThen : {D : Type 0} → (D → List ℕ) → (D → List ℕ → Type 0) → D → Attached D → Type 0
LeavesThen seen may_leave disk (Ready journal) = Only (seen journal.story.disk) (may_leave journal.story.disk)
LeavesThen seen may_leave disk (Empty same) = Only (seen same) (may_leave same)
LeavesThen seen may_leave disk (NotJournal same) = Only (seen same) (may_leave same)
LeavesThen seen may_leave disk (Failed same) = Within (may_leave same) (may_leave disk)

-- a journal's records are read from the first gate on
abbrev pub IsReading : {D : Type 0} → Attached D → Type 0
IsReading (Ready journal) = (journal.story.phase ≡ Reading) × (journal.story.gate ≡ 8)
IsReading (Empty same) = Unit {0}
IsReading (NotJournal same) = Unit {0}
IsReading (Failed same) = Unit {0}

-- the disk failed where the answer says so
abbrev pub RoseIfFailed : {D : Type 0} → (D → ℕ) → D → Attached D → Type 0
RoseIfFailed faults disk (Ready journal) = Unit {0}
RoseIfFailed faults disk (Empty same) = Unit {0}
RoseIfFailed faults disk (NotJournal same) = Unit {0}
RoseIfFailed faults disk (Failed same) = Rose (faults disk) (faults same)

-- the disk didn't fail where the answer says something else
abbrev pub PassedUnlessFailed : {D : Type 0} → (D → ℕ) → D → Attached D → Type 0
PassedUnlessFailed faults disk (Ready journal) = faults journal.story.disk ≡ faults disk
PassedUnlessFailed faults disk (Empty same) = faults same ≡ faults disk
PassedUnlessFailed faults disk (NotJournal same) = faults same ≡ faults disk
PassedUnlessFailed faults disk (Failed same) = Unit {0}
