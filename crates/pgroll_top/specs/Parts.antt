-- What the parts of a call do, for the contracts of the functions that do them.
use Rattle.std.specs.Prelude.{◌≡◌, ◌⊎◌, ℕ, ◌+◌, List, [], ◌∷◌, Bool, ◌||◌, false, if◌then◌else◌, length, Result, Ok, Err}
use Rattle.std.specs.Io.KnownBytes.{Appends, Keeps}
use Rattle.pg_io.specs.Outside.{Known, Cut, Quiet}
use Rattle.pg_io.specs.declared.whole.InputFault.{InputFault}
use Rattle.pg_io.specs.declared.whole.InputFault.TheVariants.{Failed as InputFailed, TooLong, NoMemory as OutOfMemory}
use Rattle.sql_base.specs.declared.faults.ScriptFault.{ScriptFault}
use Rattle.sql_base.specs.declared.faults.ScriptFault.TheVariants.{Line as BadLine, NoMemory as ScriptMemory}
use Rattle.script_text.specs.declared.lines.Line.{Line}
use Rattle.machine.specs.declared.events.Entry.{Entry}
use Rattle.machine.specs.declared.events.Reply.{Reply}
use Rattle.machine.specs.declared.states.State.{State}
use Rattle.machine.specs.declared.tasks.Task.{Task}
use Rattle.machine.specs.Follows as lane
use Rattle.machine.specs.Statement.{no_memory}
use Rattle.machine.specs.Step.{LaneRun, Run}
use Rattle.roll_core.specs.Engine.{first_stored}
use Rattle.roll_core.specs.Store.{Stored, meaning}
use Rattle.pgroll_top.specs.declared.ending.End.{End}
use Rattle.pgroll_top.specs.declared.ending.End.TheVariants.{Done, Refused, ReadFault, InputTooLong, BadScript, WantOfMemory}
use Rattle.pgroll_top.specs.declared.ending.Stop.{Stop}
use Rattle.pgroll_top.specs.declared.ending.Stop.TheVariants.{WriteFault, NoMemory}
use Rattle.pgroll_top.specs.declared.lanes.Lane.{Lane}
use Rattle.pgroll_top.specs.Top.{CutAtLast}
use Rattle.pgroll_top.specs.Work.{IsShown, IsTask, FollowsLines, BeginsLines, first_path, has_refusal, lines_of, numbers}

-- This is answered, or want of memory in its place.
abbrev pub IsOrNoMemory : Reply → Reply → Type 0
IsOrNoMemory wanted answer = (answer ≡ wanted) ⊎ (answer ≡ no_memory)

-- A line was written, with no fault; or cut short by a fault; or nothing was written for want of memory.
abbrev pub Shows : Known → List ℕ → Result (Unit {0}) Stop → Type 0
Shows output line (Ok done) = Appends output.before output.after line × Quiet output
Shows output line (Err WriteFault) = Cut output [] line
Shows output line (Err NoMemory) = Keeps output.before output.after × Quiet output

-- ---- a lane at work

-- A lane before its first task, over an engine that stores this.
abbrev pub lane_over : Stored → Lane
lane_over core = record { core = core; path = first_path (meaning core); number = 0; refused = false }

-- The one that begins as the machine does.
abbrev pub new_lane : Lane
new_lane = lane_over first_stored

-- The lane went on by these entries.
pub record Advances (old new : Lane) (entries : List Entry) : Type 0 where
  pub run : Run (old.number + 1) (meaning old.core) entries (meaning new.core)
  pub lane_run : LaneRun (old.number + 1) (meaning old.core) entries (meaning new.core)
  pub number : new.number ≡ old.number + length entries
  pub path : new.path ≡ lane.path_after old.path entries
  pub refused : new.refused ≡ (old.refused || has_refusal entries)

-- The lines of these entries were written; or the line of the last entry was cut short by a fault; or, for want of memory, the line of the last entry perhaps wasn't written.
abbrev pub Tells : {T : Type 0} → Known → Result T Stop → List Entry → Type 0
Tells output (Ok done) entries = Appends output.before output.after (lines_of entries) × Quiet output
Tells output (Err WriteFault) entries = CutAtLast output entries
Tells output (Err NoMemory) entries = (shown : List Entry) × IsShown shown entries × Appends output.before output.after (lines_of shown) × Quiet output

-- These entries are all the events of a task, or, where the work stopped, the first of them.
abbrev pub Comes : List (List ℕ) → Task → Result (Unit {0}) Stop → List Entry → Type 0
Comes path task (Ok done) entries = lane.Does numbers path task entries
Comes path task (Err stop) entries = lane.Begins numbers path (task ∷ []) entries

-- A lane did a task, or the first part of it.
abbrev pub DoesTask : Lane → Lane → Known → Task → Result (Unit {0}) Stop → Type 0
DoesTask old new output task result = (entries : List Entry) × Advances old new entries × Tells output result entries × Comes old.path task result entries

-- A lane did what a line asks for, or the first part of it.
abbrev pub DoesLine : Lane → Lane → Known → Line → Result (Unit {0}) Stop → Type 0
DoesLine old new output line result = (task : Task) × IsTask line task × DoesTask old new output task result

-- ---- the whole

-- What the work on these lines does, which begins with this state, by what it answers: whether a command was refused, or why it stopped.
abbrev pub Works : State → List Line → Known → Result Bool Stop → List Entry → Type 0
Works s lines output (Ok refused) history = FollowsLines s history lines × (has_refusal history ≡ refused) × Tells output (Ok refused) history
Works s lines output (Err stop) history = BeginsLines s history lines × Tells {T = Bool} output (Err stop) history

-- The end of a call that did all its work.
abbrev pub end_of_work : Bool → End
end_of_work refused = if refused then Refused else Done

-- The end of a call whose input doesn't read.
abbrev pub end_of_script : ScriptFault → End
end_of_script (BadLine number) = BadScript number
end_of_script ScriptMemory = WantOfMemory

-- The end of a call whose input wasn't read to its end.
abbrev pub end_of_fault : InputFault → End
end_of_fault InputFailed = ReadFault
end_of_fault TooLong = InputTooLong
end_of_fault OutOfMemory = WantOfMemory
