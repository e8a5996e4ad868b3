-- What holds of the machine's steps and runs.
use Rattle.machine.specs.Migrate.{complete, may_not_start, not_filled, numbers_of, phase_of, planned, rollback, started}
use Rattle.machine.specs.Done.{CommandOutcome, Done, Stepped}
use Rattle.phase_steps.specs.declared.phases.Phase.{Phase}
use Rattle.phase_steps.specs.Phases.{may_complete, may_roll_back, next_completing, next_rolling_back}
use Rattle.std.specs.Prelude.{◌≡◌, ◌<◌, ◌≤◌, ◌==◌, ℕ, ℤ, Bool, true, false, List, None, Ok, Err, map, is_none, nat_eq, sum_by, if◌then◌else◌, Option, Some, is_some}
use Rattle.std.specs.List.{count_by, list_any, AllByRecursion}
use Rattle.std.specs.Option.{option_map}
use Rattle.sql_base.specs.declared.shapes.Shape.{Shape}
use Rattle.sql_base.specs.declared.values.Value.{Value}
use Rattle.mig_lens.specs.declared.columns.Lens.{Lens}
use Rattle.mig_lens.specs.declared.columns.Side.TheVariants.{New, Old}
use Rattle.mig_lens.specs.declared.faults.Kind.{Kind}
use Rattle.mig_lens.specs.declared.faults.Kind.TheVariants as kind
use Rattle.mig_lens.specs.declared.faults.Refusal.{Refusal}
use Rattle.machine.specs.declared.events.Entry.{Entry}
use Rattle.machine.specs.declared.events.Event.{Event}
use Rattle.machine.specs.declared.events.Event.TheVariants as event
use Rattle.machine.specs.declared.events.Reading.{Reading}
use Rattle.machine.specs.declared.events.Reply.{Reply}
use Rattle.machine.specs.declared.events.Reply.TheVariants.{Delete, Insert, Select, Update, Set, Error, Start, Fill, Filled, Complete, Rollback, Refused}
use Rattle.row_rules.specs.declared.kinds.Kept.{Kept}
use Rattle.machine.specs.declared.states.State.{State}
use Rattle.mig_lens.specs.Layout.{has_mark}
use Rattle.mig_lens.specs.Lens.{forward, unfilled}
use Rattle.row_rules.specs.Site.{shown, Beside, Site, number_of, shape_of}
use Rattle.machine.specs.MayPut.{may_put, may_put_beside}
use Rattle.machine.specs.State.{Found, beginning, site_of, Shared, rows_of, shared, table_of, table_on, lens_among, row_count, with_rows}
use Rattle.machine.specs.Lawful.{IsLawful}
use Rattle.machine.specs.Follows.{goes_on_completing, goes_on_filling, goes_on_rolling_back}
use Rattle.machine.specs.Standing.{IsState, Ascends, RowStands, RowsStand, is_known}
use Rattle.machine.specs.Statement.{max_rows, Shows, Writes, begun}
use Rattle.machine.specs.Step.{IsPlainStep, LaneRun, LaneStep, Run, Step}
use Rattle.row_rules.specs.Changes.{after_changes, changes}
use Rattle.machine.specs.Sites.{ChangeAgrees, ChangeStands, HalvesAgree, JobStands, PairStands, SiteRow, SiteStands, TableStands}
use Rattle.machine.specs.Words.{Change, Expr, Items, Job, Stmt, Both, Fate, Migration, Plan, Schema}

-- A step leads from such a state to such a state.
abbrev pub StepsKeepStates : Type 0
StepsKeepStates = (s : State) (event : Event) (reply : Reply) (t : State) → Step s event reply t → IsState s → IsState t

-- So every run does that begins as the program does.
abbrev pub RunsReachStates : Type 0
RunsReachStates = (number : ℕ) (history : List Entry) (t : State) → Run number beginning history t → IsState t

-- Whether a reply refuses its event, or answers one that only looks or sets a path.
abbrev pub leaves_all : Reply → Bool
leaves_all (Error code name key) = true
leaves_all (Refused refusal) = true
leaves_all (Select rows) = true
leaves_all Set = true
leaves_all (Insert count) = false
leaves_all (Update count) = false
leaves_all (Delete count) = false
leaves_all (Start name) = false
leaves_all (Fill table count first last) = false
leaves_all Filled = false
leaves_all (Complete step) = false
leaves_all (Rollback step) = false

-- Such an event changes nothing.
abbrev pub RefusalsChangeNothing : Type 0
RefusalsChangeNothing = (s : State) (event : Event) (reply : Reply) (t : State) → Step s event reply t → leaves_all reply ≡ true → t ≡ s

-- Where no new column is made by an expression, the new half that a row begins with is the one that the lens makes of its old half.
abbrev pub BegunHalvesAreMade : Type 0
BegunHalvesAreMade = (lens : Lens) (old : Shape) (half : List Value) → has_mark lens ≡ false → forward lens old half None ≡ Ok (unfilled lens half)

-- What a row shows through the old version never depends on its new half.
abbrev pub OldShowsOldHalves : Type 0
OldShowsOldHalves = (s t : State) (found : Found) (row other : Kept) → found.side ≡ Old → row.halves.old ≡ other.halves.old → shown (site_of s found) row.halves ≡ shown (site_of t found) other.halves

-- In such a state the plain step is one of the machine's steps.
abbrev pub PlainStepsAreSteps : Type 0
PlainStepsAreSteps = (s : State) (event : Event) (r : State × Reply) → IsState s → IsPlainStep s event r → Step s event r.1 r.0

-- A step from a lawful state that stands leads to a lawful one: no old half breaks a constraint, nor does a new half in a table of which a new column has to be made, and no half is too heavy.
abbrev pub StepsKeepLaws : Type 0
StepsKeepLaws = (s : State) (event : Event) (reply : Reply) (t : State) → Step s event reply t → IsState s → IsLawful s → IsLawful t

-- So every run does that begins as the program does.
abbrev pub RunsReachLawful : Type 0
RunsReachLawful = (number : ℕ) (history : List Entry) (t : State) → Run number beginning history t → IsLawful t

-- In a state that stands, a step that one lane takes is one of the machine's steps.
abbrev pub LaneStepsAreSteps : Type 0
LaneStepsAreSteps = (s : State) (event : Event) (reply : Reply) (t : State) → LaneStep s event reply t → IsState s → Step s event reply t

-- So is every run of one lane that begins as the program does.
abbrev pub LaneRunsAreRuns : Type 0
LaneRunsAreRuns = (number : ℕ) (history : List Entry) (t : State) → LaneRun number beginning history t → Run number beginning history t

-- ---- commands

-- Only a command is answered REFUSED.
abbrev pub OnlyCommandsAreRefused : Type 0
OnlyCommandsAreRefused = (s : State) (path : List (List ℕ)) (reading : Reading) (refusal : Refusal) (t : State) → ¬ Step s (event.Said path reading) (Refused refusal) t

-- How many rows have no new half.
abbrev pub unfilled_rows : State → ℕ
unfilled_rows s = sum_by (λ table. count_by (λ row. is_none row.halves.new) table.1) s.tables

-- A batch that fills rows leaves fewer of them.
abbrev pub BatchesLeaveFewer : Type 0
BatchesLeaveFewer = (s : State) (n : ℕ) (reply : Reply) (t : State) → Step s (event.Fill n) reply t → IsState s → goes_on_filling reply ≡ true → unfilled_rows t < unfilled_rows s

-- They are at most as many as there may be rows.
abbrev pub UnfilledRowsAreFew : Type 0
UnfilledRowsAreFew = (s : State) → IsState s → unfilled_rows s ≤ max_rows

-- At most how many events `\complete` may come to: all three steps, those that are left, or the one that is refused.
abbrev pub steps_of : Kind → ℕ → ℕ
steps_of kind.Nothing left = 3
steps_of kind.Complete left = if left == 2 then 2 else 1
steps_of kind.Rollback left = 1

abbrev pub steps_due : State → ℕ
steps_due s = steps_of s.kind s.left

-- A step that isn't the last leaves fewer.
abbrev pub StepsLeaveFewer : Type 0
StepsLeaveFewer = (s : State) (reply : Reply) (t : State) → Step s event.Complete reply t → goes_on_completing reply ≡ true → steps_due t < steps_due s

-- They are between one and three.
abbrev pub StepsAreFew : Type 0
StepsAreFew = (s : State) → (1 ≤ steps_due s) × (steps_due s ≤ 3)

-- At most how many events `\rollback` may come to: both steps, the one that is left, or the one that is refused.
abbrev pub steps_back_of : Kind → ℕ
steps_back_of kind.Nothing = 2
steps_back_of kind.Complete = 1
steps_back_of kind.Rollback = 1

abbrev pub steps_back_due : State → ℕ
steps_back_due s = steps_back_of s.kind

-- A step that isn't the last leaves fewer.
abbrev pub StepsBackLeaveFewer : Type 0
StepsBackLeaveFewer = (s : State) (reply : Reply) (t : State) → Step s event.Rollback reply t → goes_on_rolling_back reply ≡ true → steps_back_due t < steps_back_due s

-- They are one or two.
abbrev pub StepsBackAreFew : Type 0
StepsBackAreFew = (s : State) → (1 ≤ steps_back_due s) × (steps_back_due s ≤ 2)

-- What stands against a command in the phase refuses it; and an accepted one does the step that comes next in the phase.
pub record SaidByPhase (may : Phase → Option Refusal) (next : Phase → Option ℕ) (command : State → CommandOutcome) (s : State) : Type 0 where
  pub refused : (refusal : Refusal) → may (phase_of s) ≡ Some refusal → command s ≡ Err refusal
  pub done : (done : Done) → command s ≡ Ok done → option_map Stepped (next (phase_of s)) ≡ Some done.wrote

-- The phase alone says which step of completing may come, and which step of rolling back.
abbrev pub PhasesSaySteps : Type 0
PhasesSaySteps = (s : State) → SaidByPhase may_complete next_completing complete s × SaidByPhase may_roll_back next_rolling_back rollback s

-- Where nothing stands against rolling back in the phase it isn't refused, whatever the rows are.
abbrev pub RollingBackIsDone : Type 0
RollingBackIsDone = (s : State) → may_roll_back (phase_of s) ≡ None → (done : Done) × (rollback s ≡ Ok done)

-- What the version that stood before the migration has of each of its rows is what it had before a step of rolling back.
abbrev pub OldHalvesStay : Type 0
OldHalvesStay =
    (s : State) (reply : Reply) (t : State) (number : ℕ) → IsState s → Step s event.Rollback reply t → is_some (table_on s Old number) ≡ true →
    map {B = ℤ × Option (List Value)} (λ row. (row.key, row.halves.old)) (rows_of t number) ≡ map {B = ℤ × Option (List Value)} (λ row. (row.key, row.halves.old)) (rows_of s number)

-- ---- tables, sites and rows of a state that stands

-- A table that a path finds stands, and so does its site.
abbrev pub FoundStands : Type 0
FoundStands = (s : State) (path : List (List ℕ)) (name : List ℕ) (found : Found) → IsState s → table_of s path name ≡ Some found → TableStands s found × SiteStands (site_of s found)

-- The site of a statement that writes is that of a table that stands, and its job is one whose names and types are settled.
abbrev pub WritesStand : Type 0
WritesStand = (s : State) (path : List (List ℕ)) (stmt : Stmt) (site : Site) (what : Job) → IsState s → begun s path stmt ≡ Ok (Writes site what) → (found : Found) × (site ≡ site_of s found) × TableStands s found × JobStands (shape_of site.here) what

-- So is that of a statement that shows.
abbrev pub ShowsStand : Type 0
ShowsStand = (s : State) (path : List (List ℕ)) (stmt : Stmt) (site : Site) (items : Items) (condition : Option Expr) → IsState s → begun s path stmt ≡ Ok (Shows site items condition) → (found : Found) × (site ≡ site_of s found) × TableStands s found

-- A table that both versions have joins them.
abbrev pub SharedStands : Type 0
SharedStands = (s : State) (number : ℕ) (pair : Shared) → IsState s → shared s number ≡ Some pair → PairStands s number pair

-- The site through which its rows are filled stands.
abbrev pub FillingStands : Type 0
FillingStands = (s : State) (number : ℕ) (pair : Shared) → IsState s → shared s number ≡ Some pair → (number_of pair.new ≡ number) × TableStands s (record { side = New; table = pair.new })

-- The rows of a number ascend and stand.
abbrev pub RowsStandBy : Type 0
RowsStandBy = (s : State) (number : ℕ) → IsState s → Ascends (rows_of s number) × RowsStand s number (rows_of s number)

-- A row of a table stands on its site.
abbrev pub RowsOnSites : Type 0
RowsOnSites = (s : State) (found : Found) (row : Kept) → IsState s → TableStands s found → RowStands s (number_of found.table) row → SiteRow (λ lost. Unit {0}) (site_of s found) row

-- Each row that the changes of a job put stands, where the rows that they are made of do.
abbrev pub ChangesKeep : Type 0
ChangesKeep =
    (s : State) (found : Found) (what : Job) (older : List Kept) (all : List Change) → IsState s → TableStands s found → JobStands (shape_of found.table) what → AllByRecursion (SiteRow (λ lost. Unit {0}) (site_of s found)) older →
    changes (site_of s found) what older ≡ Ok all → AllByRecursion (ChangeStands (λ lost. Unit {0}) (site_of s found)) all

-- In the rows that a job puts carried columns agree, where they do in the rows that it is done to.
abbrev pub ChangesAgree : Type 0
ChangesAgree =
    (site : Site) (beside : Beside) (what : Job) (older : List Kept) (all : List Change) → SiteStands site → site.there ≡ Some beside → AllByRecursion (λ row. HalvesAgree beside.lens row.halves) older →
    changes site what older ≡ Ok all → AllByRecursion (ChangeAgrees beside.lens) all

-- ---- tables of a state that stands, as commands go through them

-- A table's rows are those of its number.
abbrev pub TablesHaveTheirRows : Type 0
TablesHaveTheirRows = (s : State) → IsState s → AllByRecursion (λ table. rows_of s table.0 ≡ table.1) s.tables

-- Each is one of a version that stands.
abbrev pub TablesAreKnown : Type 0
TablesAreKnown = (s : State) → IsState s → AllByRecursion (λ table. is_known s table.0 ≡ true) s.tables

-- A table that both versions have is joined by a lens.
abbrev pub BothAreShared : Type 0
BothAreShared =
    (s : State) (number : ℕ) → IsState s → is_some (table_on s Old number) ≡ true → is_some (table_on s New number) ≡ true →
    is_some (shared s number) ≡ true

-- It is joined by the lens that the plan gave it, and each table with such a lens is one that both versions have.
abbrev pub SharedByLenses : Type 0
SharedByLenses =
    (s : State) (name : List ℕ) (schema : Schema) (fates : List (ℕ × Fate)) (number : ℕ) → IsState s → s.mode ≡ Both name schema fates →
    option_map (λ pair. pair.lens) (shared s number) ≡ lens_among fates number

-- Where none is still to be filled, each row of a table that the new version has has its new half.
abbrev pub FilledRowsHaveHalves : Type 0
FilledRowsHaveHalves =
    (s : State) → IsState s → not_filled s (numbers_of s) ≡ None →
    AllByRecursion (λ table. is_some (table_on s New table.0) ≡ true → AllByRecursion (λ row. is_some row.halves.new ≡ true) table.1) s.tables

-- What a migration begins with stands.
abbrev pub StartsStand : Type 0
StartsStand = (s : State) (m : Migration) (plan : Plan) → IsState s → may_not_start s m ≡ None → planned s m ≡ Ok plan → IsState (started s m.name plan)

-- ---- rows from outside

-- The state after changes of the rows of one table.
abbrev pub with_changes : State → ℕ → List Change → State
with_changes s number all = with_rows s number (after_changes all (rows_of s number))

-- Changes that may be made in a lawful state that stands leave such a state.
abbrev pub PutRowsKeepStates : Type 0
PutRowsKeepStates = (s : State) (number : ℕ) (all : List Change) → IsState s → IsLawful s → may_put s number all ≡ true → IsState (with_changes s number all) × IsLawful (with_changes s number all)

-- No others are refused in a table of the state: changes that leave such a state may be made.
abbrev pub KeepingRowsMayBePut : Type 0
KeepingRowsMayBePut =
    (s : State) (number : ℕ) (all : List Change) → IsState s → list_any (nat_eq number) (numbers_of s) ≡ true →
    IsState (with_changes s number all) → IsLawful (with_changes s number all) → may_put s number all ≡ true

-- Of the state no more is looked at than its versions, its steps of tidying, the table's rows and the number of all rows.
abbrev pub FramesTell : Type 0
FramesTell =
    (s frame : State) (number : ℕ) (all : List Change) → frame.schema ≡ s.schema → frame.mode ≡ s.mode → frame.kind ≡ s.kind → frame.left ≡ s.left →
    may_put_beside frame number (rows_of s number) (row_count s) all ≡ may_put s number all
