-- Histories, and what it means that a history does the work of an input.
use Rattle.std.specs.Prelude.{◌≡◌, ◌⊎◌, ◌≤◌, ◌<◌, ℕ, List, [], ◌∷◌, ◌++◌, Bool, true, false, Result, Ok, codes, length}
use Rattle.std.specs.List.{list_any}
use Rattle.sql_base.specs.declared.faults.ScriptFault.{ScriptFault}
use Rattle.sql_parse.specs.declared.faults.ParseFault.{ParseFault}
use Rattle.sql_parse.specs.declared.faults.ParseFault.TheVariants as parse
use Rattle.sql_parse.specs.Grammar.{IsStmt}
use Rattle.sql_parse.specs.Reading as grammar
use Rattle.mig_lens.specs.declared.faults.Refusal.{Refusal}
use Rattle.mig_lens.specs.declared.faults.Refusal.TheVariants as refusal
use Rattle.mig_json.specs.declared.faults.JsonFault.{JsonFault}
use Rattle.mig_json.specs.declared.faults.JsonFault.TheVariants as fault
use Rattle.mig_json.specs.Migration.{IsReading, Fails}
use Rattle.script_text.specs.declared.lines.Line.{Line}
use Rattle.script_text.specs.declared.lines.Line.TheVariants.{Text, Command}
use Rattle.script_text.specs.declared.lines.Order.TheVariants as order
use Rattle.script_text.specs.Script.{script_of}
use Rattle.machine.specs.declared.events.Asked.{Asked}
use Rattle.machine.specs.declared.events.Asked.TheVariants.{Read as Migrates, Refused as NotRead}
use Rattle.machine.specs.declared.events.Entry.{Entry}
use Rattle.machine.specs.declared.events.Reading.{Reading}
use Rattle.machine.specs.declared.events.Reading.TheVariants.{Stmt as Read, TooLong, Syntax, Wide, Deep}
use Rattle.machine.specs.declared.events.Reply.{Reply}
use Rattle.machine.specs.declared.events.Reply.TheVariants.{Refused}
use Rattle.machine.specs.declared.states.State.{State}
use Rattle.machine.specs.declared.tasks.Task.{Task}
use Rattle.machine.specs.declared.tasks.Task.TheVariants as task
use Rattle.machine.specs.Follows as lane
use Rattle.machine.specs.State.{beginning, path_name}
use Rattle.machine.specs.Step.{LaneRun, Run}
use Rattle.report.specs.Lines as lines

-- ---- actors

-- The actors of a call, by their numbers from 0: control, which does the commands, and main, which says the statements of `exec`.
abbrev pub actors : List (List ℕ)
actors = codes "control" ∷ codes "main" ∷ []

abbrev pub numbers : lane.Actors
numbers = record { lane = 1; control = 0 }

-- ---- histories

-- The entries are numbered from 1, and are steps of the machine, one after another, from the one state to the other. They are those of one lane: each batch takes the least keys that are to be filled.
abbrev pub IsHistoryFrom : State → List Entry → State → Type 0
IsHistoryFrom s history end = Run 1 s history end × LaneRun 1 s history end

-- The history of a call that begins as the machine does.
abbrev pub IsHistory : List Entry → Type 0
IsHistory history = (end : State) × IsHistoryFrom beginning history end

-- The lines of a history.
abbrev pub lines_of : List Entry → List ℕ
lines_of history = lines.lines_of actors history

abbrev pub line_of : Entry → List ℕ
line_of entry = lines.line_of actors entry

-- Which entries had their lines written: all, or all but the last, whose line found no memory. No entry comes after that one.
abbrev pub IsShown : List Entry → List Entry → Type 0
IsShown shown history = (history ≡ shown) ⊎ ((last : Entry) × (history ≡ shown ++ last ∷ []))

-- A command was refused: its line says REFUSED.
abbrev pub refuses : Reply → Bool
refuses (Refused refusal) = true
refuses _ = false

abbrev pub has_refusal : List Entry → Bool
has_refusal history = list_any (λ entry. refuses entry.reply) history

-- ---- what the lines of an input ask for

-- The most bytes that a line may have to be read. (This limit is our own.)
abbrev pub max_statement : ℕ
max_statement = 4096

-- A line that isn't too long has this first fault.
abbrev pub HasFault : List ℕ → ParseFault → Type 0
HasFault line fault = (length line ≤ max_statement) × grammar.Fails IsStmt grammar.stmt_depth line fault

-- What a line reads as: the statement that it is, by the whole grammar; or none, since it is too long, or for its first fault.
abbrev pub ReadsAs : List ℕ → Reading → Type 0
ReadsAs line (Read stmt) = (length line ≤ max_statement) × grammar.ReadsAs IsStmt grammar.stmt_depth line stmt
ReadsAs line TooLong = max_statement < length line
ReadsAs line Syntax = (at : ℕ) × HasFault line (parse.Syntax at)
ReadsAs line Wide = (at : ℕ) × HasFault line (parse.Wide at)
ReadsAs line Deep = HasFault line parse.Deep

-- The first fault of a migration's text refuses its start: P20 where the text is too long, else P16, P14 or P15 with the fault's path or place. (No text has want of memory for its fault.)
abbrev pub refusal_of : JsonFault → Refusal
refusal_of (fault.TooLong len) = refusal.Limit (codes "migration")
refusal_of (fault.Json path) = refusal.BadJson path
refusal_of (fault.BadExpr place) = refusal.BadExpr place
refusal_of (fault.BadType place) = refusal.BadType place
refusal_of fault.NoMemory = refusal.Limit []

-- What the text of a migration asks for: the migration that it reads as, or, where it reads as none, nothing, for its first fault.
abbrev pub AsksFor : List ℕ → Asked → Type 0
AsksFor text (Migrates migration) = IsReading text migration
AsksFor text (NotRead refusal) = (f : JsonFault) × Fails text f × (refusal_of f ≡ refusal)

-- What a line asks for.
abbrev pub IsTask : Line → Task → Type 0
IsTask (Text line) (task.Say reading) = ReadsAs line reading
IsTask (Command (order.Start text)) (task.Start asked) = AsksFor text asked
IsTask (Command (order.Batch n)) (task.Batch m) = m ≡ n
IsTask (Command order.Fill) task.Fill = Unit {0}
IsTask (Command order.Complete) task.Complete = Unit {0}
IsTask (Command order.Rollback) task.Rollback = Unit {0}
IsTask (Text line) _ = ⊥
IsTask (Command (order.Start text)) _ = ⊥
IsTask (Command (order.Batch n)) _ = ⊥
IsTask (Command order.Fill) _ = ⊥
IsTask (Command order.Complete) _ = ⊥
IsTask (Command order.Rollback) _ = ⊥

-- These tasks are what these lines ask for, one each, in order.
abbrev pub AreTasks : List Line → List Task → Type 0
AreTasks [] [] = Unit {0}
AreTasks (line ∷ later) (one ∷ tasks) = IsTask line one × AreTasks later tasks
AreTasks _ _ = ⊥

-- ---- the work of a call

-- The path that statements go through at first: the version that stands in the state which a call begins with.
abbrev pub first_path : State → List (List ℕ)
first_path s = path_name s.version ∷ []

-- The lines that a command's words and its input ask for in a state, or why they ask for none. So far the one command is `exec`, whose lines are those of the input.
abbrev pub work_of : List (List ℕ) → List ℕ → State → Result (List Line) ScriptFault
work_of words text s = script_of text

-- The history, which begins with this state, does all that these lines ask for: their tasks, in order, each once.
abbrev pub FollowsLines : State → List Entry → List Line → Type 0
FollowsLines s history lines = (tasks : List Task) × AreTasks lines tasks × lane.Follows numbers (first_path s) tasks history

-- The history does the first part of it.
abbrev pub BeginsLines : State → List Entry → List Line → Type 0
BeginsLines s history lines = (tasks : List Task) × AreTasks lines tasks × lane.Begins numbers (first_path s) tasks history

-- Every line of the work reads, and the history does all that they ask for.
abbrev pub Follows : List (List ℕ) → State → List Entry → List ℕ → Type 0
Follows words s history text = (lines : List Line) × (work_of words text s ≡ Ok lines) × FollowsLines s history lines

-- Every line of the work reads, and the history does the first part of what they ask for.
abbrev pub Begins : List (List ℕ) → State → List Entry → List ℕ → Type 0
Begins words s history text = (lines : List Line) × (work_of words text s ≡ Ok lines) × BeginsLines s history lines
