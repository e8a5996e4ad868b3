-- Refused events change nothing.
use Rattle.std.proofs.Common.{◌≡◌, ℕ, ℤ, List, true, false, ◌==◌, Option, Some, None, Ok, refl, filter, option_map}
use Rattle.std.specs.Option.{option_map_or}
use Rattle.sql_base.specs.Outcome.{and_then}
use Rattle.row_rules.specs.Causes.{max_reply, row_error}
use Rattle.row_rules.specs.Changes.{cause_together, changes}
use Rattle.row_rules.specs.Rows.{rows_at}
use Rattle.row_rules.specs.Show.{rows_shown}
use Rattle.row_rules.specs.Site.{Site, name_of, number_of}
use Rattle.machine.specs.declared.events.Asked.{Asked}
use Rattle.machine.specs.declared.events.Reading.{Reading}
use Rattle.machine.specs.Done.{CommandOutcome, Started, answered}
use Rattle.machine.specs.Laws.{RefusalsChangeNothing, leaves_all}
use Rattle.machine.specs.Migrate.{batch, batch_settled, by_completing, complete, fill_keys, finish, may_not_complete, may_not_start, planned, refused_batch, roll_back, rollback, standing_alone, start, start_planned, started, stepped, too_heavy}
use Rattle.machine.specs.State.{Shared, filling_site, missing_keys, rows_of, shared}
use Rattle.machine.specs.Statement.{Begun, Writes, Shows, Sets, begun, changed, error_reply, finished, refused_all, settled, written, written_reply}
use Rattle.machine.specs.Step.{line_outcome}
use Rattle.machine.specs.Words.{Both, Calm, Cause, Change, Deep, Filled, Job, Kept, Migrates, Mode, NotRead, Read, Reply, Select, Start, State, Syntax, TooLong, Wide, map_fault}
use Rattle.machine.specs.Words.job
use Rattle.machine.proofs.Outcomes.{Holds, holds_guarded, holds_then, holds_without, step_so}
use Rattle.machine.proofs.Tidying.{completing_so, rolling_back_so, tidied_so}

-- The event changed nothing, where its reply says so.
abbrev Stays : State → Reply → State → Type 0
Stays s reply t = leaves_all reply ≡ true → t ≡ s

-- ---- statements

-- Rows that were written aren't a refusal.
written_changes : (site : Site) (what : Job) (all : List Change) → leaves_all (written_reply site what all) ≡ false
written_changes site (job.Put rows) all = refl
written_changes site (job.Alter sets condition) all = refl
written_changes site (job.Remove condition) all = refl
written_changes site job.Fill all = refl

changed_stays : (s : State) (site : Site) (what : Job) (all : List Change) (t : State) → Stays s (written_reply site what all) t
changed_stays s site what all t h = let no = written_changes site what all in absurd cc

written_stays : (s : State) (site : Site) (what : Job) → Holds (Stays s) (written s site what)
written_stays s site what =
    holds_then (Stays s) (map_fault (λ (cause : Cause). error_reply (row_error cause)) (changes site what (rows_of s (number_of site.here)))) (settled s site what)
    (λ all made. holds_guarded (Stays s) (refused_all s site what all) (Ok (changed s site what all)) (λ none. changed_stays s site what all (changed s site what all).after))

finished_stays : (s : State) (b : Begun) → Holds (Stays s) (finished s b)
finished_stays s (Writes site what) = written_stays s site what
finished_stays s (Shows site items condition) =
    holds_then (Stays s) (map_fault error_reply (rows_shown site items condition max_reply (rows_of s (number_of site.here)))) (λ rows. Ok (answered s (Select rows))) (λ rows e h. refl)
finished_stays s Sets = λ h. refl

line_stays : (s : State) (path : List (List ℕ)) (reading : Reading) → Holds (Stays s) (line_outcome s path reading)
line_stays s path (Read stmt) = holds_then (Stays s) (begun s path stmt) (finished s) (λ b e. finished_stays s b)
line_stays s path TooLong = tt
line_stays s path Syntax = tt
line_stays s path Wide = tt
line_stays s path Deep = tt

-- ---- commands

start_stays : (s : State) (asked : Asked) → Holds (Stays s) (start s asked)
start_stays s (NotRead refusal) = tt
start_stays s (Migrates m) =
    holds_guarded (Stays s) (may_not_start s m) (and_then (planned s m) (start_planned s m))
    (λ allowed. holds_then (Stays s) (planned s m) (start_planned s m)
    (λ plan e. holds_without (Stays s) (too_heavy s plan) (record { reply = Start m.name; after = started s m.name plan; wrote = Started m }) (λ light h. cc)))

batch_stays : (s : State) (pair : Shared) (rows : List Kept) → Holds (Stays s) (batch s pair rows)
batch_stays s pair rows =
    let site = filling_site s pair in
    holds_then (Stays s) (map_fault (refused_batch (name_of pair.new)) (changes site job.Fill rows)) (batch_settled s pair)
    (λ all e. holds_without (Stays s) (option_map (refused_batch (name_of pair.new)) (cause_together site job.Fill (rows_of s (number_of pair.new)) all)) (changed s site job.Fill all)
    (λ none. changed_stays s site job.Fill all (changed s site job.Fill all).after))

fill_stays : (s : State) (number : ℕ) (keys : List ℤ) → Holds (Stays s) (fill_keys s number keys)
fill_stays s number keys = by_pair (shared s number)
  where
    by_pair : (found : Option Shared) → Holds (Stays s) (option_map_or {U = CommandOutcome} (λ pair. batch s pair (rows_at keys (rows_of s number))) found (Ok (answered s Filled)))
    by_pair None = λ h. refl
    by_pair (Some pair) = batch_stays s pair (rows_at keys (rows_of s number))

finish_stays : (s : State) (mode : Mode) → Holds (Stays s) (finish s mode)
finish_stays s Calm = tt
finish_stays s (Both name schema fates) = holds_without (Stays s) (may_not_complete s) (stepped 1 (standing_alone by_completing name schema fates s)) (λ none h. cc)

complete_stays : (s : State) → Holds (Stays s) (complete s)
complete_stays s = completing_so s (Stays s) (λ is. finish_stays s s.mode) (λ is. tidied_so s (Stays s) (s.left == 2) (λ two h. cc) (λ last h. cc))

roll_back_stays : (s : State) (mode : Mode) → Holds (Stays s) (roll_back s mode)
roll_back_stays s Calm = tt
roll_back_stays s (Both name schema fates) = λ h. cc

rollback_stays : (s : State) → Holds (Stays s) (rollback s)
rollback_stays s = rolling_back_so s (Stays s) (λ is. roll_back_stays s s.mode) (λ is h. cc)

-- ---- the law

pub refusals_change_nothing : RefusalsChangeNothing
refusals_change_nothing s what reply t step =
    step_so s (Stays s) (record {
      refused = λ reply h. refl;
      line = line_stays s;
      start = start_stays s;
      some = λ number chosen _. fill_stays s number (filter chosen (missing_keys s number));
      complete = complete_stays s;
      rollback = rollback_stays s;
    }) what reply t step
