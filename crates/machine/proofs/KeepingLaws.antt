-- Every step keeps constraints and limits, and so every run does that begins as the program does.
use Rattle.std.proofs.Common.{◌≡◌, ℕ, ◌+◌, ℤ, List, [], ◌∷◌, ◌==◌, Option, Some, None, Ok, filter, refl, sym, subst, codes, nat_lt, if◌then◌else◌, option_map}
use Rattle.std.specs.List.{list_any}
use Rattle.std.specs.Option.{option_map_or, option_or}
use Rattle.sql_base.specs.Laws.{either_none}
use Rattle.sql_base.specs.Outcome.{and_then}
use Rattle.mig_lens.specs.declared.faults.Refusal.TheVariants.{Limit}
use Rattle.row_rules.specs.declared.kinds.Change.TheVariants.{Put, Remove}
use Rattle.row_rules.specs.Accept.{clashes, clashes_on, side_cause, total_weight, weight_cause}
use Rattle.row_rules.specs.Causes.{heavy_statement, max_reply, max_total, row_error}
use Rattle.row_rules.specs.Changes.{after_changes, cause_together, changes, keys_changed, new_keys_cause, refused_together, rows_put}
use Rattle.row_rules.specs.Rows.{rows_at}
use Rattle.row_rules.specs.Show.{rows_shown}
use Rattle.row_rules.specs.Site.{Beside, name_of, number_of}
use Rattle.machine.specs.declared.events.Asked.{Asked}
use Rattle.machine.specs.declared.events.Entry.{Entry}
use Rattle.machine.specs.declared.events.Reading.{Reading}
use Rattle.machine.specs.Below.{Below}
use Rattle.machine.specs.Done.{CommandOutcome, Started, answered}
use Rattle.machine.specs.Lawful.{HasLawfulRows, HasNoClash, IsLawful, IsLawfulRow}
use Rattle.machine.specs.Laws.{RunsReachLawful, StepsKeepLaws}
use Rattle.machine.specs.Migrate.{batch, batch_settled, by_completing, complete, fill_keys, finish, has_heavy, invalid, may_not_complete, may_not_start, not_filled, not_valid, numbers_of, planned, refused_batch, roll_back, rollback, standing_alone, start, start_planned, started, stepped, too_heavy}
use Rattle.machine.specs.Sites.{OfPut, TableStands, new_table_by, table_by}
use Rattle.machine.specs.Standing.{IsState}
use Rattle.machine.specs.State.{Found, Shared, beginning, filling_site, missing_keys, rows_of, shared, site_of, with_rows}
use Rattle.machine.specs.Statement.{Begun, Writes, Shows, Sets, begun, changed, error_reply, finished, refused_all, settled, too_many, written}
use Rattle.machine.specs.Step.{Run, line_outcome}
use Rattle.machine.specs.Words.{Both, Calm, Cause, Change, Deep, Filled, Job, Kept, Kind, Migrates, Mode, New, NotRead, Old, Read, Reply, Select, Side, Start, State, Syntax, Table, TooLong, Wide, map_fault}
use Rattle.machine.specs.Words.job
use Rattle.machine.specs.Words.kind
use Rattle.machine.proofs.Accepting.{if_none, map_fault_ok, map_none}
use Rattle.machine.proofs.FoundSites.{sides}
use Rattle.machine.proofs.LawfulRows.{completed_lawful, emptied_lawful, rolled_lawful, rows_lawful, started_lawful, with_rows_lawful}
use Rattle.machine.proofs.LawfulTables.{changed_unique, completed_unique, emptied_unique, rolled_unique, started_unique}
use Rattle.machine.proofs.Lines.{BegunStands, begun_stands}
use Rattle.machine.proofs.Moving.{each_so}
use Rattle.machine.proofs.Outcomes.{Holds, holds_guarded, holds_then, holds_without, step_so}
use Rattle.machine.proofs.Pairs.{new_stands}
use Rattle.machine.proofs.Placing.{changed_each}
use Rattle.machine.proofs.Replacing.{rows_stand}
use Rattle.machine.proofs.Running.{beginning_stands, steps_keep_states}
use Rattle.machine.proofs.SoundChanges.{IsSound, changes_sound}
use Rattle.machine.proofs.Tidying.{completing_so, emptied, ended, rolling_back_so, tidied_so}

-- ---- changes

-- Of a row with which nothing is wrong.
record Looked (old new : Option Table) (row : Kept) : Type 0 where
  old_half : side_cause old row.key row.halves.old ≡ None
  new_half : side_cause new row.key row.halves.new ≡ None
  light : weight_cause row ≡ None

looked_at : (side : Side) (here : Table) (there : Option Beside) (lost : ℕ) (row : Kept) → IsSound (record { side = side; here = here; there = there; lost = lost }) row → Looked (table_by side here there) (new_table_by side here there) row
looked_at Old here there lost row h =
    let beside = option_map {U = Table} (λ (beside : Beside). beside.table) there in
    let first = either_none (side_cause (Some here) row.key row.halves.old) (option_or (side_cause beside row.key row.halves.new) (weight_cause row)) h in
    let second = either_none (side_cause beside row.key row.halves.new) (weight_cause row) first.1 in
    record { old_half = first.0; new_half = second.0; light = second.1 }
looked_at New here there lost row h =
    let beside = option_map {U = Table} (λ (beside : Beside). beside.table) there in
    let first = either_none (side_cause (Some here) row.key row.halves.new) (option_or (side_cause beside row.key row.halves.old) (weight_cause row)) h in
    let second = either_none (side_cause beside row.key row.halves.old) (weight_cause row) first.1 in
    record { old_half = second.0; new_half = first.0; light = second.1 }

-- Nothing clashes, on either side.
record Quiet (old new : Option Table) (rows : List Kept) (keys : List ℤ) : Type 0 where
  old_side : clashes_on old Old rows keys ≡ None
  new_side : clashes_on new New rows keys ≡ None

both_sides : (side : Side) (here : Table) (there : Option Beside) (lost : ℕ) (rows : List Kept) (keys : List ℤ) → clashes (record { side = side; here = here; there = there; lost = lost }) rows keys ≡ None → Quiet (table_by side here there) (new_table_by side here there) rows keys
both_sides Old here there lost rows keys h =
    let parts = either_none (clashes_on (Some here) Old rows keys) (clashes_on (option_map {U = Table} (λ (beside : Beside). beside.table) there) New rows keys) h in
    record { old_side = parts.0; new_side = parts.1 }
both_sides New here there lost rows keys h =
    let parts = either_none (clashes_on (Some here) New rows keys) (clashes_on (option_map {U = Table} (λ (beside : Beside). beside.table) there) Old rows keys) h in
    record { old_side = parts.1; new_side = parts.0 }

module _ (below : Below) (s : State) (stands : IsState s) (lawful : IsLawful s) (found : Found) (f : TableStands s found) where
  sound_lawful : (row : Kept) → IsSound (site_of s found) row → IsLawfulRow s (number_of found.table) row
  sound_lawful row h =
      let site = site_of s found in
      let at = sides s stands found f in
      let looked = looked_at found.side found.table site.there site.lost row h in
      record {
        old = subst (λ table. side_cause table row.key row.halves.old ≡ None) at.old looked.old_half;
        new = λ _. subst (λ table. side_cause table row.key row.halves.new ≡ None) at.new looked.new_half;
        light = looked.light;
      }

  as_put : (change : Change) → OfPut (IsSound (site_of s found)) change → OfPut (IsLawfulRow s (number_of found.table)) change
  as_put (Put row) h = sound_lawful row h
  as_put (Remove key) h = tt

  -- Changes of a job, where nothing clashes with them.
  pub changed_lawful : (what : Job) (some : List Kept) (all : List Change) → changes (site_of s found) what some ≡ Ok all → cause_together (site_of s found) what (rows_of s (number_of found.table)) all ≡ None → IsLawful (with_rows s (number_of found.table) (after_changes all (rows_of s (number_of found.table))))
  changed_lawful what some all made none =
      let number = number_of found.table in
      let older = rows_of s number in
      let rows = after_changes all older in
      let site = site_of s found in
      let at = sides s stands found f in
      let quiet = both_sides found.side found.table site.there site.lost rows (keys_changed all) (either_none (new_keys_cause site what older all) (clashes site rows (keys_changed all)) none).1 in
      let put = each_so (OfPut (IsSound site)) (OfPut (IsLawfulRow s number)) as_put all (changes_sound site what some all made) in
      record {
        rows = with_rows_lawful s number rows lawful.rows (changed_each (IsLawfulRow s number) all older put (rows_lawful s number lawful.rows));
        unique = changed_unique s number all (rows_stand s number stands).0 (below.order all older (rows_stand s number stands).0) lawful.unique
            (subst (λ table. clashes_on table Old rows (keys_changed all) ≡ None) at.old quiet.old_side)
            (λ _. subst (λ table. clashes_on table New rows (keys_changed all) ≡ None) at.new quiet.new_side);
      }

-- ---- lines

abbrev Lawful : Reply → State → Type 0
Lawful reply t = IsLawful t

found_written : Below → (s : State) (what : Job) (found : Found) → IsState s → IsLawful s →
    TableStands s found → Holds Lawful (written s (site_of s found) what)
found_written below s what found stands lawful f =
    let site = site_of s found in
    let rows = rows_of s (number_of found.table) in
    holds_then Lawful (map_fault (λ (cause : Cause). error_reply (row_error cause)) (changes site what rows)) (settled s site what)
    (λ all made. holds_guarded Lawful (refused_all s site what all) (Ok (changed s site what all))
    (λ none.
    let together = map_none error_reply (refused_together site what rows all) (either_none (option_map error_reply (refused_together site what rows all)) (too_many s site all) none).0 in
    let quiet = map_none row_error (cause_together site what rows all) (either_none (option_map row_error (cause_together site what rows all)) (if nat_lt max_total (total_weight (rows_put all)) then Some heavy_statement else None) together).0 in
    changed_lawful below s stands lawful found f what rows all (map_fault_ok (λ (cause : Cause). error_reply (row_error cause)) (changes site what rows) all made) quiet))

finished_lawful : Below → (s : State) (b : Begun) → IsState s → IsLawful s → BegunStands s b →
    Holds Lawful (finished s b)
finished_lawful below s (Writes site what) stands lawful w = subst (λ site. Holds Lawful (written s site what)) (sym w.0.is) (found_written below s what w.0.found stands lawful w.0.stands)
finished_lawful below s (Shows site items condition) stands lawful w =
    holds_then Lawful (map_fault error_reply (rows_shown site items condition max_reply (rows_of s (number_of site.here)))) (λ rows. Ok (answered s (Select rows))) (λ rows e. lawful)
finished_lawful below s Sets stands lawful w = lawful

line_lawful : Below → (s : State) (path : List (List ℕ)) (reading : Reading) → IsState s → IsLawful s → Holds Lawful (line_outcome s path reading)
line_lawful below s path (Read stmt) stands lawful = holds_then Lawful (begun s path stmt) (finished s) (λ b e. finished_lawful below s b stands lawful (begun_stands below s path stmt b stands e))
line_lawful below s path TooLong stands lawful = tt
line_lawful below s path Syntax stands lawful = tt
line_lawful below s path Wide stands lawful = tt
line_lawful below s path Deep stands lawful = tt

-- ---- START

begun_lawful : (s : State) (asked : Asked) → IsLawful s → Holds Lawful (start s asked)
begun_lawful s (NotRead refusal) lawful = tt
begun_lawful s (Migrates m) lawful =
    holds_guarded Lawful (may_not_start s m) (and_then (planned s m) (start_planned s m))
    (λ allowed. holds_then Lawful (planned s m) (start_planned s m)
    (λ plan is. holds_without Lawful (too_heavy s plan) (record { reply = Start m.name; after = started s m.name plan; wrote = Started m })
    (λ light. record {
      rows = started_lawful s m.name plan lawful.rows (if_none (list_any (has_heavy plan.fates) s.tables) (Limit (codes "row")) light);
      unique = started_unique s m.name plan lawful.unique;
    })))

-- ---- FILL

batch_lawful : Below → (s : State) (pair : Shared) (rows : List Kept) → IsState s → IsLawful s →
    TableStands s (record { side = New; table = pair.new }) → Holds Lawful (batch s pair rows)
batch_lawful below s pair rows stands lawful f =
    let site = filling_site s pair in
    let older = rows_of s (number_of pair.new) in
    holds_then Lawful (map_fault (refused_batch (name_of pair.new)) (changes site job.Fill rows)) (batch_settled s pair)
    (λ all e. holds_without Lawful (option_map (refused_batch (name_of pair.new)) (cause_together site job.Fill older all)) (changed s site job.Fill all)
    (λ none. changed_lawful below s stands lawful (record { side = New; table = pair.new }) f job.Fill rows all (map_fault_ok (refused_batch (name_of pair.new)) (changes site job.Fill rows) all e) (map_none (refused_batch (name_of pair.new)) (cause_together site job.Fill older all) none)))

filled_lawful : Below → (s : State) (number : ℕ) (keys : List ℤ) → IsState s → IsLawful s →
    Holds Lawful (fill_keys s number keys)
filled_lawful below s number keys stands lawful = by_pair (shared s number) refl
  where
    by_pair : (found : Option Shared) → shared s number ≡ found → Holds Lawful (option_map_or {U = CommandOutcome} (λ pair. batch s pair (rows_at keys (rows_of s number))) found (Ok (answered s Filled)))
    by_pair None is = lawful
    by_pair (Some pair) is = batch_lawful below s pair (rows_at keys (rows_of s number)) stands lawful (new_stands s number pair stands is).1

-- ---- COMPLETE

ended_lawful : (s : State) → IsLawful s → IsLawful (ended s)
ended_lawful s lawful =
    record {
      rows = each_so (HasLawfulRows s) (HasLawfulRows (ended s)) (λ u. each_so (IsLawfulRow s u.0) (IsLawfulRow (ended s) u.0) (λ row h. record { old = h.old; new = h.new; light = h.light }) u.1) s.tables lawful.rows;
      unique = each_so (HasNoClash s) (HasNoClash (ended s)) (λ u h. record { old = h.old; new = h.new }) s.tables lawful.unique;
    }

emptied_stays : (s : State) (left : ℕ) (k : Kind) → IsLawful s → IsLawful (emptied left k s)
emptied_stays s left k lawful = record { rows = emptied_lawful s left k lawful.rows; unique = emptied_unique s left k lawful.unique }

finish_lawful : Below → (s : State) (m : Mode) → s.mode ≡ m → IsState s → IsLawful s → Holds Lawful (finish s m)
finish_lawful below s Calm is stands lawful = tt
finish_lawful below s (Both name schema fates) is stands lawful =
    holds_without Lawful (may_not_complete s) (stepped 1 (standing_alone by_completing name schema fates s))
    (λ allowed.
    let valid = map_none not_valid (invalid s (numbers_of s)) (either_none (not_filled s (numbers_of s)) (option_map not_valid (invalid s (numbers_of s))) allowed).1 in
    record { rows = completed_lawful below s name schema fates is stands.numbers lawful.rows valid; unique = completed_unique below s name schema fates is stands.numbers valid })

complete_lawful : Below → (s : State) → IsState s → IsLawful s → Holds Lawful (complete s)
complete_lawful below s stands lawful =
    completing_so s Lawful (λ is. finish_lawful below s s.mode refl stands lawful)
    (λ is. tidied_so s Lawful (s.left == 2) (λ two. emptied_stays s 1 s.kind lawful) (λ last. ended_lawful s lawful))

-- ---- ROLLBACK

rollback_lawful : (s : State) → IsLawful s → Holds Lawful (rollback s)
rollback_lawful s lawful = rolling_back_so s Lawful (λ is. by_mode s.mode) (λ is. emptied_stays s 0 kind.Nothing lawful)
  where
    by_mode : (mode : Mode) → Holds Lawful (roll_back s mode)
    by_mode Calm = tt
    by_mode (Both name schema fates) = record { rows = rolled_lawful s fates lawful.rows; unique = rolled_unique s fates lawful.unique }

-- ---- steps and runs

pub steps_keep_laws : Below → StepsKeepLaws
steps_keep_laws below s what reply t step stands lawful =
    step_so s Lawful (record {
      refused = λ reply. lawful;
      line = λ path reading. line_lawful below s path reading stands lawful;
      start = λ asked. begun_lawful s asked lawful;
      some = λ number chosen _. filled_lawful below s number (filter chosen (missing_keys s number)) stands lawful;
      complete = complete_lawful below s stands lawful;
      rollback = rollback_lawful s lawful;
    }) what reply t step

beginning_lawful : IsLawful beginning
beginning_lawful = record { rows = (tt, tt); unique = (record { old = refl; new = λ k. cc }, tt) }

runs_from : Below → (number : ℕ) (s : State) (history : List Entry) (t : State) → IsState s → IsLawful s → Run number s history t → IsLawful t
runs_from below number s [] t stands lawful h = subst IsLawful (sym h) lawful
runs_from below number s (entry ∷ history) t stands lawful (here, middle, step, rest) =
    runs_from below (number + 1) middle history t (steps_keep_states below s entry.event entry.reply middle step stands) (steps_keep_laws below s entry.event entry.reply middle step stands lawful) rest

pub runs_reach_lawful : Below → RunsReachLawful
runs_reach_lawful below number history t h = runs_from below number beginning history t beginning_stands beginning_lawful h
