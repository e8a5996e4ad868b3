-- A lane goes on by entries.
use Rattle.std.proofs.Common.{◌≡◌, ℕ, ℤ, ◌+◌, Bool, true, false, ◌||◌, List, [], ◌∷◌, ◌++◌, length, Option, Result, Ok, Err, refl, sym, ap, subst, ◌∙◌, length-append, arith}
use Rattle.pg_io.specs.Outside.{Known}
use Rattle.machine.specs.declared.events.Entry.{Entry}
use Rattle.machine.specs.declared.events.Event.{Event}
use Rattle.machine.specs.declared.events.Reply.{Reply}
use Rattle.machine.specs.declared.states.State.{State}
use Rattle.machine.specs.declared.tasks.Task.{Task}
use Rattle.machine.specs.Follows.{Does, path_after, path_by}
use Rattle.machine.specs.Step.{LaneRun, LaneStep, Run, Step}
use Rattle.roll_core.specs.Store.{Stored, meaning}
use Rattle.sql_base.specs.declared.codes.Code.{Code}
use Rattle.sql_base.specs.declared.stmts.Stmt.TheVariants.{SetPath}
use Rattle.machine.specs.declared.events.Event.TheVariants.{Said}
use Rattle.machine.specs.declared.events.Reading.{Reading}
use Rattle.machine.specs.declared.events.Reading.TheVariants.{Stmt as Read, TooLong, Syntax, Wide, Deep}
use Rattle.machine.specs.declared.events.Reply.TheVariants.{Error}
use Rattle.pgroll_top.specs.declared.ending.Stop.{Stop}
use Rattle.pgroll_top.specs.declared.ending.Stop.TheVariants.{NoMemory}
use Rattle.pgroll_top.specs.declared.lanes.Lane.{Lane}
use Rattle.pgroll_top.specs.Work.{has_refusal, line_of, numbers, refuses}
use Rattle.pgroll_top.specs.Parts.{Advances, Comes, DoesTask, Shows}
use Rattle.pgroll_top.proofs.Following.{begins_none, does_begins, path_append}
use Rattle.pgroll_top.proofs.Telling.{tells_none, tells_one}

-- ---- one run after another

pub run_append : (n : ℕ) (s : State) (h : List Entry) (m : State) (e : List Entry) (t : State) → Run n s h m → Run (n + length h) m e t → Run n s (h ++ e) t
run_append n s [] m e t first second = subst (λ x. Run n x e t) first (let same : n + 0 ≡ n = omega arith in subst (λ k. Run k m e t) same second)
run_append n s (entry ∷ h) m e t first second =
    (first.0, first.1, first.2, run_append (n + 1) first.1 h m e t first.3 (let same : n + length (entry ∷ h) ≡ n + 1 + length h = omega arith in subst (λ k. Run k m e t) same second))

pub lane_run_append : (n : ℕ) (s : State) (h : List Entry) (m : State) (e : List Entry) (t : State) → LaneRun n s h m → LaneRun (n + length h) m e t → LaneRun n s (h ++ e) t
lane_run_append n s [] m e t first second = subst (λ x. LaneRun n x e t) first (let same : n + 0 ≡ n = omega arith in subst (λ k. LaneRun k m e t) same second)
lane_run_append n s (entry ∷ h) m e t first second =
    (first.0, first.1, first.2, lane_run_append (n + 1) first.1 h m e t first.3 (let same : n + length (entry ∷ h) ≡ n + 1 + length h = omega arith in subst (λ k. LaneRun k m e t) same second))

or_assoc : (a b c : Bool) → ((a || b) || c) ≡ (a || (b || c))
or_assoc true b c = refl
or_assoc false b c = refl

or_false : (a : Bool) → (a || false) ≡ a
or_false true = refl
or_false false = refl

pub refusal_append : (h e : List Entry) → has_refusal (h ++ e) ≡ (has_refusal h || has_refusal e)
refusal_append [] e = refl
refusal_append (entry ∷ h) e = ap (λ b. refuses entry.reply || b) (refusal_append h e) ∙ sym (or_assoc (refuses entry.reply) (has_refusal h) (has_refusal e))

pub advances_more : (old mid new : Lane) (h e : List Entry) → Advances old mid h → Advances mid new e → Advances old new (h ++ e)
advances_more old mid new h e first second = record {
  run = run_append (old.number + 1) (meaning old.core) h (meaning mid.core) e (meaning new.core) first.run (let same : mid.number + 1 ≡ old.number + 1 + length h = omega (arith, first.number) in subst (λ k. Run k (meaning mid.core) e (meaning new.core)) same second.run);
  lane_run = lane_run_append (old.number + 1) (meaning old.core) h (meaning mid.core) e (meaning new.core) first.lane_run (let same : mid.number + 1 ≡ old.number + 1 + length h = omega (arith, first.number) in subst (λ k. LaneRun k (meaning mid.core) e (meaning new.core)) same second.lane_run);
  number = omega (arith, first.number, second.number, length-append h e);
  path = second.path ∙ ap (λ path. path_after path e) first.path ∙ sym (path_append old.path h e);
  refused = second.refused ∙ ap (λ b. b || has_refusal e) first.refused ∙ or_assoc old.refused (has_refusal h) (has_refusal e) ∙ ap (λ b. old.refused || b) (sym (refusal_append h e));
}

pub advances_none : (lane : Lane) → Advances lane lane []
advances_none lane = record { run = refl; lane_run = refl; number = omega arith; path = refl; refused = sym (or_false lane.refused) }

-- ---- one event

-- The entry of an event with its reply.
abbrev pub entry_of : Lane → ℕ → Event → Reply → Entry
entry_of old actor what reply = record { number = old.number + 1; actor = actor; event = what; reply = reply }

-- The lane after it, which has this core and goes through this path.
abbrev pub lane_after : Lane → Stored → List (List ℕ) → Reply → Lane
lane_after old core path reply = record { core = core; path = path; number = old.number + 1; refused = old.refused || refuses reply }

-- What holds of its core holds of the lane after it.
pub core_after : (P : Stored → Type 0) (mid new : Lane) (core : Stored) (path : List (List ℕ)) (reply : Reply) → new ≡ lane_after mid core path reply → P core → P new.core
core_after P mid new core path reply is = subst P (sym (ap (λ (lane : Lane). lane.core) is))

pub advances_one : (old : Lane) (actor : ℕ) (what : Event) (reply : Reply) (core : Stored) (path : List (List ℕ)) (new : Lane)
    → Step (meaning old.core) what reply (meaning core) → LaneStep (meaning old.core) what reply (meaning core) → path ≡ path_by old.path what reply → new ≡ lane_after old core path reply
    → Advances old new (entry_of old actor what reply ∷ [])
advances_one old actor what reply core path new step lane_step moved is =
    subst (λ lane. Advances old lane (entry_of old actor what reply ∷ [])) (sym is) (record {
      run = (refl, meaning core, step, refl);
      lane_run = (refl, meaning core, lane_step, refl);
      number = refl;
      path = moved;
      refused = ap (λ b. old.refused || b) (sym (or_false (refuses reply)));
    })

pub comes : (path : List (List ℕ)) (one : Task) (result : Result (Unit {0}) Stop) (entries : List Entry) → Does numbers path one entries → Comes path one result entries
comes path one (Ok done) entries does = does
comes path one (Err stop) entries does = does_begins numbers path one entries does

-- a task of one event
pub does_one : (old : Lane) (output : Known) (one : Task) (actor : ℕ) (what : Event) (reply : Reply) (core : Stored) (path : List (List ℕ)) (new : Lane) (result : Result (Unit {0}) Stop)
    → Step (meaning old.core) what reply (meaning core) → LaneStep (meaning old.core) what reply (meaning core) → path ≡ path_by old.path what reply → new ≡ lane_after old core path reply
    → Shows output (line_of (entry_of old actor what reply)) result
    → Does numbers old.path one (entry_of old actor what reply ∷ [])
    → DoesTask old new output one result
does_one old output one actor what reply core path new result step lane_step moved is shown does =
    let entry = entry_of old actor what reply in
    (entry ∷ [], advances_one old actor what reply core path new step lane_step moved is, tells_one output entry result shown, comes old.path one result (entry ∷ []) does)

-- a task of which nothing was done, for want of memory
pub none_done : (old : Lane) (core : Stored) → core ≡ old.core → (told : Option (List ℕ)) (a : ℕ) (one : Task)
    → DoesTask old (record { core = core; path = old.path; number = old.number; refused = old.refused }) (record { before = told; after = told; faults_before = a; faults_after = a }) one (Err NoMemory)
none_done old core same told a one =
    ([], subst (λ s. Advances old (record { core = s; path = old.path; number = old.number; refused = old.refused }) []) (sym same) (advances_none old), tells_none told a, begins_none numbers old.path (one ∷ []))

-- a refusal leaves the path
pub path_stays : (path said : List (List ℕ)) (reading : Reading) (code : Code) (name : Option (List ℕ)) (key : Option ℤ) → path ≡ path_by path (Said said reading) (Error code name key)
path_stays path said (Read (SetPath names)) code name key = refl
path_stays path said (Read _) code name key = refl
path_stays path said TooLong code name key = refl
path_stays path said Syntax code name key = refl
path_stays path said Wide code name key = refl
path_stays path said Deep code name key = refl
