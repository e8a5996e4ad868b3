-- The work on the lines of an input, a line at a time.
use Rattle.std.proofs.Common.{◌≡◌, ℕ, zero, suc, ◌+◌, ◌*◌, ◌<◌, ◌≤◌, Bool, List, [], ◌∷◌, ◌++◌, length, take, drop, get_or, Option, Ok, Err, refl, sym, ap, subst, ◌∙◌, append_assoc, inl, arith}
use Rattle.std.specs.Io.KnownBytes.{Appends}
use Rattle.std.proofs.lemmas.List.{take_more, take-append-drop}
use Rattle.pg_io.specs.Outside.{Known}
use Rattle.pg_io.specs.Laws.{appends_none}
use Rattle.mig_json.specs.Migration.{TextsReadOrFail}
use Rattle.script_text.specs.declared.lines.Line.{Line}
use Rattle.machine.specs.declared.events.Entry.{Entry}
use Rattle.machine.specs.declared.tasks.Task.{Task}
use Rattle.machine.specs.Follows as follow
use Rattle.machine.specs.Laws.{RunsReachStates}
use Rattle.machine.specs.Standing.{IsState}
use Rattle.machine.specs.State.{beginning}
use Rattle.pgroll_top.specs.declared.ending.Stop.{Stop}
use Rattle.pgroll_top.specs.declared.ending.Stop.TheVariants.{NoMemory}
use Rattle.pgroll_top.specs.declared.lanes.Lane.{Lane}
use Rattle.roll_core.specs.Store.{meaning}
use Rattle.pgroll_top.specs.Work.{AreTasks, IsHistory, first_path, lines_of, numbers}
use Rattle.pgroll_top.specs.Parts.{Advances, DoesLine, Works, new_lane}
use Rattle.pgroll_top.proofs.Advancing.{advances_more, advances_none}
use Rattle.pgroll_top.proofs.Following.{begins_longer, begins_none, follows_begins, follows_more}
use Rattle.pgroll_top.proofs.Reading.{LinesReadOrFail}
use Rattle.pgroll_top.proofs.Tasks.{some_tasks, tasks_append}
use Rattle.pgroll_top.proofs.Telling.{tells_more, tells_stop}

-- How far the work has come: the history does what the lines before this place ask for, and its lines are written.
pub record Worked (lines : List Line) (at : ℕ) (now : Lane) (output : Known) (history : List Entry) : Type 0 where
  pub advances : Advances new_lane now history
  pub tasks : List Task
  pub are : AreTasks (take at lines) tasks
  pub follows : follow.Follows numbers (first_path beginning) tasks history
  pub written : Appends output.before output.after (lines_of history)
  pub quiet : output.faults_after ≡ output.faults_before
  pub room : now.number ≤ at * 262145

-- so far nothing is done
pub no_work : (lines : List Line) (told : Option (List ℕ)) (a : ℕ) → Worked lines 0 new_lane (record { before = told; after = told; faults_before = a; faults_after = a }) []
no_work lines told a = record {
  advances = advances_none new_lane;
  tasks = [];
  are = tt;
  follows = refl;
  written = appends_none told;
  quiet = refl;
  room = omega arith;
}

-- the state stands
pub stands_there : RunsReachStates → (lines : List Line) (at : ℕ) (now : Lane) (output : Known) (history : List Entry) → Worked lines at now output history → IsState (meaning now.core)
stands_there law lines at now output history w = law 1 history (meaning now.core) w.advances.run

pub history_there : (lines : List Line) (at : ℕ) (now : Lane) (output : Known) (history : List Entry) → Worked lines at now output history → IsHistory history
history_there lines at now output history w = (meaning now.core, (w.advances.run, w.advances.lane_run))

module _ (lines : List Line) (at : ℕ) (line : Line) (mid new : Lane) (before middle now : Option (List ℕ)) (a b c : ℕ) (history : List Entry)
    (w : Worked lines at mid (record { before = before; after = middle; faults_before = a; faults_after = b }) history)
    (below : at < length lines) (is : line ≡ get_or lines at line) where
  next : take (at + 1) lines ≡ take at lines ++ line ∷ []
  next = take_more lines at line below ∙ ap (λ x. take at lines ++ x ∷ []) (sym is)

  all : lines ≡ take at lines ++ line ∷ drop (at + 1) lines
  all = sym (take-append-drop (at + 1) lines) ∙ ap (λ x. x ++ drop (at + 1) lines) next ∙ append_assoc (take at lines) (line ∷ []) (drop (at + 1) lines)

  -- the line is done
  pub worked_more : (done : Unit {0}) → DoesLine mid new (record { before = middle; after = now; faults_before = b; faults_after = c }) line (Ok done) → new.number ≤ mid.number + 262145
      → (h : List Entry) × Worked lines (at + 1) new (record { before = before; after = now; faults_before = a; faults_after = c }) h
  worked_more done (one, asks, (entries, advances, tells, does)) few =
      let told = tells_more {T = Unit {0}} before middle now a b c history entries (Ok done) w.written w.quiet tells in (
        history ++ entries,
        record {
          advances = advances_more new_lane mid new history entries w.advances advances;
          tasks = w.tasks ++ one ∷ [];
          are = subst (λ ls. AreTasks ls (w.tasks ++ one ∷ [])) (sym next) (tasks_append (take at lines) (line ∷ []) w.tasks (one ∷ []) w.are (asks, tt));
          follows = follows_more numbers (first_path beginning) w.tasks one history entries w.follows (subst (λ path. follow.Does numbers path one entries) w.advances.path does);
          written = told.0;
          quiet = told.1;
          room = omega (arith, w.room, few);
        },
      )

  -- the work stopped in it
  pub worked_stopped : TextsReadOrFail → LinesReadOrFail → (stop : Stop) → DoesLine mid new (record { before = middle; after = now; faults_before = b; faults_after = c }) line (Err stop)
      → (h : List Entry) × IsHistory h × Works beginning lines (record { before = before; after = now; faults_before = a; faults_after = c }) (Err stop) h
  worked_stopped law reads stop (one, asks, (entries, advances, tells, begins)) =
      let told = tells_more {T = Unit {0}} before middle now a b c history entries (Err stop) w.written w.quiet tells in
      let advanced = advances_more new_lane mid new history entries w.advances advances in
      let later = some_tasks law reads (drop (at + 1) lines) in (
        history ++ entries,
        (meaning new.core, (advanced.run, advanced.lane_run)),
        (
          (
            w.tasks ++ one ∷ later.0,
            subst (λ ls. AreTasks ls (w.tasks ++ one ∷ later.0)) (sym all) (tasks_append (take at lines) (line ∷ drop (at + 1) lines) w.tasks (one ∷ later.0) w.are (asks, later.1)),
            follows_begins numbers (first_path beginning) w.tasks (one ∷ later.0) history entries w.follows (begins_longer numbers (follow.path_after (first_path beginning) history) one later.0 entries (subst (λ path. follow.Begins numbers path (one ∷ []) entries) w.advances.path begins)),
          ),
          tells_stop (Unit {0}) Bool (record { before = before; after = now; faults_before = a; faults_after = c }) stop (history ++ entries) told,
        ),
      )

take_all : (lines : List Line) (at : ℕ) → length lines ≤ at → take at lines ≡ lines
take_all [] zero h = refl
take_all [] (suc at) h = refl
take_all (line ∷ lines) zero h = absurd (omega arith)
take_all (line ∷ lines) (suc at) h = ap (λ z. line ∷ z) (take_all lines at (omega arith))

-- all lines are done
pub worked_all : (lines : List Line) (at : ℕ) (now : Lane) (output : Known) (history : List Entry) → length lines ≤ at → Worked lines at now output history → Works beginning lines output (Ok now.refused) history
worked_all lines at now output history end w = (
  (w.tasks, subst (λ ls. AreTasks ls w.tasks) (take_all lines at end) w.are, w.follows),
  sym w.advances.refused,
  (w.written, w.quiet),
)

-- no line is done, for want of memory
pub stopped_at_once : TextsReadOrFail → LinesReadOrFail → (lines : List Line) (told : Option (List ℕ)) (a : ℕ) → (h : List Entry) × IsHistory h × Works beginning lines (record { before = told; after = told; faults_before = a; faults_after = a }) (Err NoMemory) h
stopped_at_once law reads lines told a =
    let tasks = some_tasks law reads lines in
    ([], (beginning, (refl, refl)), ((tasks.0, tasks.1, begins_none numbers (first_path beginning) tasks.0), ([], inl refl, appends_none told, refl)))
