-- What a statement changes in its table is accepted or refused as the machine has it, and leads to what the machine says.
use Rattle.roll_core.proofs.Words.{either_none, slice_get-get_or, arith, ◌≡◌, ◌≤◌, ◌<◌, ◌∙◌, ◌^◌, ◌-◌, min, ℕ, ◌+◌, ℤ, List, [], ◌∷◌, true, false, Option, Some, None, Result, Ok, Err, if◌then◌else◌}
use Rattle.roll_core.proofs.Words.{is_some, nat_lt, length, map, int_cmp, ap, refl, sym, subst, option_map, slice_get, slice_index_or, slice_set, Each, option_or, nat_tests, length-map, and_then_ok}
use Rattle.roll_core.proofs.Words.{ok_same, some_same, and_then, every, Cause, Change, Put, Remove, Job, Kept, clashes, has_key, total_weight, heavy_statement, max_total, row_error, after_changes}
use Rattle.roll_core.proofs.Words.{altered_row, cause_together, changes, keys_changed, matching, new_keys_cause, refused_together, rows_put, Stop, Because, NoMemory, Answers, guarded, map_fault, Site}
use Rattle.roll_core.proofs.Words.{number_of, shape_of, Reply, State, Done, Outcome, leaves_all, JobStands, OfPut, TableStands, Found, lost_columns_of, row_count, rows_of, site_of, with_rows}
use Rattle.roll_core.proofs.Words.{error_reply, max_rows, too_many_rows, written_reply, Rows, IsState, Form, OwnTable, changed, rows_after, with_changes, Comes, FormSuits, IsSite, IsStatement, Runs}
use Rattle.roll_core.proofs.Words.{RowsStored, SameForms, accepted, meant, refused_all, stored_count, too_many, too_many_error, own_count, seen, StoredRow, StoredTable, kept, lost_columns_by}
use Rattle.roll_core.proofs.Words.{rows_meant, Below}
use Rattle.roll_core.proofs.Words.finite
use Rattle.roll_core.proofs.Words.job
use Rattle.roll_core.proofs.Words.statement
use Rattle.std.specs.FinMap.{find}
use Rattle.roll_core.proofs.Begun.{stands_there}
use Rattle.roll_core.proofs.Rows.{Stores, has_key-stored}
use Rattle.roll_core.proofs.Counted.{new_count, removed_count, rows_are, same_count}
use Rattle.roll_core.proofs.Fitting.{sorted_found}
use Rattle.roll_core.proofs.Made.{Placed, changes_placed}
use Rattle.roll_core.proofs.Outcomes.{guarded_ok, map_fault_ok, none_mapped}
use Rattle.roll_core.proofs.Tables.{IsRead, all_at, count_seen, count_set, count_meant, read_at, rows_of-read, suits_meant}
use Rattle.roll_core.proofs.Jobs.{leaves, new_fresh, statement_stores}

keys_accepted : (site : Site) (what : Job) (older : List Kept) (all : List Change) → refused_together site what older all ≡ None → new_keys_cause site what older all ≡ None
keys_accepted site what older all e =
    let one = (either_none (option_map row_error (cause_together site what older all)) (if nat_lt max_total (total_weight (rows_put all)) then Some heavy_statement else None) e).0 in
    (either_none (new_keys_cause site what older all) (clashes site (after_changes all older) (keys_changed all)) (none_mapped row_error (cause_together site what older all) one)).0

-- ---- how many rows the changes leave

abbrev CountsBy : Job → ℕ → ℕ → List Change → Type 0
CountsBy (job.Put rows) old new all = new ≡ old + length all
CountsBy (job.Alter sets condition) old new all = new ≤ old
CountsBy (job.Remove condition) old new all = new ≤ old
CountsBy job.Fill old new all = Unit {0}

apart_keys : (form : Form) (rows : Rows) (new : List Kept) → Each (λ row. has_key row.key (map (kept form) (finite.entries rows)) ≡ false) new → Each (λ row. finite.contains_key rows row.key ≡ false) new
apart_keys form rows [] h = tt
apart_keys form rows (row ∷ new) h = (has_key-stored form row.key rows ∙ h.0, apart_keys form rows new h.1)

own_keys : (form : Form) (all : Rows) (rows : List StoredRow) → Each (λ row. find int_cmp row.0 (finite.entries all) ≡ Some row.1) rows → Each (λ row. finite.contains_key all row.key ≡ true) (map (kept form) rows)
own_keys form all [] f = tt
own_keys form all (row ∷ rows) f = (ap is_some (finite.get-entries all row.0 ∙ f.0), own_keys form all rows f.1)

placed_keys : (rows : Rows) (site : Site) (new : List Kept) → Each (OfPut (Placed (λ key lost. finite.contains_key rows key ≡ true) site)) (map Put new) → Each (λ row. finite.contains_key rows row.key ≡ true) new
placed_keys rows site [] h = tt
placed_keys rows site (row ∷ new) h = (h.0.weighs, placed_keys rows site new h.1)

job_counts : (site : Site) (form : Form) (rows : Rows) (what : Job) (all : List Change) → changes site what (map (kept form) (finite.entries rows)) ≡ Ok all → new_keys_cause site what (map (kept form) (finite.entries rows)) all ≡ None → CountsBy what (finite.len rows) (finite.len (rows_after form all rows)) all
job_counts site form rows (job.Put values) all e none =
    let older = map (kept form) (finite.entries rows) in
    let f = new_fresh site values older all e none in
    let count = new_count form rows f.0 rows (apart_keys form rows f.0 f.2.apart) f.2.once in
    subst (λ all. finite.len (rows_after form all rows) ≡ finite.len rows + length all) f.1 (count ∙ ap (λ n. finite.len rows + n) (sym (length-map f.0 Put)))
job_counts site form rows (job.Alter sets condition) all e none =
    let older = map (kept form) (finite.entries rows) in
    let P = λ (key : ℤ) (lost : ℕ). finite.contains_key rows key ≡ true in
    let made = rows_are (and_then (matching site condition older) (λ rows. every (map (altered_row site sets) rows))) all e in
    let placed = changes_placed P site (job.Alter sets condition) older all tt (own_keys form rows (finite.entries rows) (sorted_found (finite.entries rows) (finite.entries_sorted rows))) e in
    let there = placed_keys rows site made.0 (subst (Each (OfPut (Placed P site))) (sym made.2) placed) in
    let count = same_count form rows made.0 rows there in
    subst (λ all. finite.len (rows_after form all rows) ≤ finite.len rows) made.2 (omega (arith, count))
job_counts site form rows (job.Remove condition) all e none =
    let older = map (kept form) (finite.entries rows) in
    let step = and_then_ok (matching site condition older) (λ rows. Ok (map (λ row. Remove row.key) rows)) all e in
    subst (λ all. finite.len (rows_after form all rows) ≤ finite.len rows) (ok_same (map (λ (row : Kept). Remove row.key) step.0) all step.2) (removed_count form rows step.0 rows)
job_counts site form rows job.Fill all e none = tt

too_many_same : (what : Job) (all : List Change) (count sum old new : ℕ) → IsStatement what → CountsBy what old new all → sum + old ≡ count + new → count ≤ max_rows → nat_lt max_rows sum ≡ too_many count what all
too_many_same (job.Put rows) all count sum old new w c e few =
    let same : sum ≡ count + length all = omega (arith, c, e) in
    ap (nat_lt max_rows) same
too_many_same (job.Alter sets condition) all count sum old new w c e few = let less : sum ≤ max_rows = omega (arith, c, e, few) in grind (arith, nat_tests)
too_many_same (job.Remove condition) all count sum old new w c e few = let less : sum ≤ max_rows = omega (arith, c, e, few) in grind (arith, nat_tests)
too_many_same job.Fill all count sum old new w c e few = absurd w

-- ---- the table of a statement

-- A statement's job meets the table at a place, in tables that run.
record Meets (frame : State) (tables : List StoredTable) (at : ℕ) (found : Found) (table : OwnTable) (what : Job) : Type 0 where
  runs : Runs frame tables
  stands : TableStands frame found
  read : IsRead tables at (number_of found.table) (seen table)
  said : IsStatement what
  settled : JobStands (shape_of found.table) what

rows_are_read : Below → (frame : State) (tables : List StoredTable) (at : ℕ) (found : Found) (table : OwnTable) (what : Job) → Meets frame tables at found table what → rows_of (meant frame tables) (number_of found.table) ≡ rows_meant (seen table)
rows_are_read law frame tables at found table what m = rows_of-read law frame tables at (number_of found.table) (seen table) m.runs.stands m.read

table_stores : Below → (frame : State) (tables : List StoredTable) (at : ℕ) (found : Found) (table : OwnTable) (what : Job) → Meets frame tables at found table what → (all : List Change) → changes (site_of frame found) what (rows_meant (seen table)) ≡ Ok all → refused_together (site_of frame found) what (rows_meant (seen table)) all ≡ None → Each (Stores table.form table.rows.rows) all
table_stores law frame tables at found table what m all e none =
    let number = number_of found.table in
    let suits = subst (λ n. FormSuits frame n table.form) m.read.numbered (all_at (λ (t : StoredTable). FormSuits frame t.number t.form) tables at (seen table) m.runs.forms m.read.here) in
    let lost = subst (λ n. lost_columns_of frame n ≡ lost_columns_by table.form) m.read.numbered (all_at (λ (t : StoredTable). lost_columns_of frame t.number ≡ lost_columns_by t.form) tables at (seen table) m.runs.lost m.read.here) in
    statement_stores law (meant frame tables) found m.runs.stands (stands_there frame tables found m.stands) table.form table.rows.rows (suits_meant frame tables number table.form suits) lost
    (all_at RowsStored tables at (seen table) m.runs.rows m.read.here) (rows_are_read law frame tables at found table what m) what m.said m.settled all e (keys_accepted (site_of frame found) what (rows_meant (seen table)) all none)

too_many-is : Below → (frame : State) (tables : List StoredTable) (at : ℕ) (found : Found) (table : OwnTable) (what : Job) → Meets frame tables at found table what → (all : List Change) → Each (Stores table.form table.rows.rows) all → CountsBy what (finite.len table.rows.rows) (finite.len (rows_after table.form all table.rows.rows)) all
    → statement.too_many (meant frame tables) (site_of frame found) all ≡ too_many_error (stored_count tables) what all
too_many-is law frame tables at found table what m all stores counts =
    let new = slice_set tables at (changed all table) in
    let sum : row_count (with_rows (meant frame tables) (number_of found.table) (statement.rows_after (meant frame tables) (site_of frame found) all)) ≡ stored_count new =
    ap row_count (leaves law frame tables at (number_of found.table) table m.runs m.read all stores).after ∙ count_meant new in
    let both = count_set tables at (seen table) (changed all table) m.read.here in
    let before = finite.len-entries table.rows.rows in
    let after = finite.len-entries (rows_after table.form all table.rows.rows) in
    let few : stored_count tables ≤ max_rows = subst (λ n. n ≤ max_rows) (count_meant tables) m.runs.stands.few in
    let test = too_many_same what all (stored_count tables) (stored_count new) (finite.len table.rows.rows) (finite.len (rows_after table.form all table.rows.rows)) m.said counts (omega (arith, both, before, after)) few in
    ap (λ n. if nat_lt max_rows n then Some too_many_rows else None) sum ∙ ap (λ b. if◌then◌else◌ {A = Option Reply} b (Some too_many_rows) None) test

refused_same : Below → (frame : State) (tables : List StoredTable) (at : ℕ) (found : Found) (table : OwnTable) (what : Job) → Meets frame tables at found table what → (all : List Change) → changes (site_of frame found) what (rows_meant (seen table)) ≡ Ok all
    → statement.refused_all (meant frame tables) (site_of frame found) what all ≡ refused_all (seen table) (stored_count tables) (site_of frame found) what all
refused_same law frame tables at found table what m all e =
    let site = site_of frame found in
    let older = rows_meant (seen table) in
    let machine = statement.too_many (meant frame tables) site all in
    ap (λ rows. option_or (option_map error_reply (refused_together site what rows all)) machine) (rows_are_read law frame tables at found table what m)
    ∙ elim (refused_together site what older all) as (λ o. refused_together site what older all ≡ o → option_or (option_map error_reply o) machine ≡ option_or (option_map error_reply o) (too_many_error (stored_count tables) what all)) [
      | Some error ↦ λ none. refl
      | None ↦ λ none. too_many-is law frame tables at found table what m all (table_stores law frame tables at found table what m all e none) (job_counts site table.form table.rows.rows what all e (keys_accepted site what older all none))
    ] refl

-- ---- the outcome

written_is : Below → (frame : State) (tables : List StoredTable) (at : ℕ) (found : Found) (table : OwnTable) (what : Job) → Meets frame tables at found table what
    → statement.written (meant frame tables) (site_of frame found) what ≡ and_then (accepted (seen table) (stored_count tables) (site_of frame found) what) (λ all. Ok (statement.changed (meant frame tables) (site_of frame found) what all))
written_is law frame tables at found table what m =
    let s = meant frame tables in
    let site = site_of frame found in
    let rows = rows_meant (seen table) in
    let of = λ (r : Result (List Change) Cause). map_fault (λ cause. error_reply (row_error cause)) r in
    let refused = refused_all (seen table) (stored_count tables) site what in
    ap (λ rows. and_then (of (changes site what rows)) (statement.settled s site what)) (rows_are_read law frame tables at found table what m)
    ∙ elim (changes site what rows) as (λ r. changes site what rows ≡ r → and_then (of r) (statement.settled s site what) ≡ and_then (and_then (of r) (λ all. guarded (refused all) (Ok all))) (λ all. Ok (statement.changed s site what all))) [
      | Ok all ↦ λ e. ap (λ (o : Option Reply). guarded {T = Done} o (Ok (statement.changed s site what all))) (refused_same law frame tables at found table what m all e) ∙ elim (refused all) as (λ o. guarded {T = Done} o (Ok (statement.changed s site what all)) ≡ and_then (guarded o (Ok all)) (λ all. Ok (statement.changed s site what all))) [ None ↦ refl | Some fault ↦ refl ]
      | Err cause ↦ λ e. refl
    ] refl

accepted_parts : (table : StoredTable) (count : ℕ) (site : Site) (what : Job) (all : List Change) → accepted table count site what ≡ Ok all → (changes site what (rows_meant table) ≡ Ok all) × (refused_together site what (rows_meant table) all ≡ None)
accepted_parts table count site what all e =
    let of = λ (cause : Cause). error_reply (row_error cause) in
    let step = and_then_ok (map_fault of (changes site what (rows_meant table))) (λ all. guarded (refused_all table count site what all) (Ok all)) all e in
    let made = map_fault_ok of (changes site what (rows_meant table)) step.0 step.1 in
    let parts = guarded_ok (refused_all table count site what step.0) (Ok step.0) all step.2 in
    let none = none_mapped error_reply (refused_together site what (rows_meant table) step.0) (either_none (option_map error_reply (refused_together site what (rows_meant table) step.0)) (too_many_error count what step.0) parts.0).0 in
    let same = ok_same step.0 all parts.1 in
    (made ∙ ap Ok same, subst (λ all. refused_together site what (rows_meant table) all ≡ None) same none)

tells : (site : Site) (what : Job) (all : List Change) → IsStatement what → leaves_all (written_reply site what all) ≡ false
tells site (job.Put rows) all w = refl
tells site (job.Alter sets condition) all w = refl
tells site (job.Remove condition) all w = refl
tells site job.Fill all w = absurd w

-- What is promised of a statement that is accepted.
pub record Settled (frame : State) (old : List StoredTable) (outcome : Outcome) (reply : Reply) (new : List StoredTable) : Type 0 where
  pub comes : Comes frame old outcome (Ok reply) new
  pub forms : SameForms old new
  pub stored : Each RowsStored new

settled_at : Below → (frame : State) (tables : List StoredTable) (at : ℕ) (found : Found) (table : OwnTable) (what : Job) → Meets frame tables at found table what → (all : List Change) → accepted (seen table) (stored_count tables) (site_of frame found) what ≡ Ok all
    → Settled frame tables (statement.written (meant frame tables) (site_of frame found) what) (written_reply (site_of frame found) what all) (slice_set tables at (changed all table))
settled_at law frame tables at found table what m all e =
    let s = meant frame tables in
    let site = site_of frame found in
    let parts = accepted_parts (seen table) (stored_count tables) site what all e in
    let stores = table_stores law frame tables at found table what m all parts.0 parts.1 in
    let left = leaves law frame tables at (number_of found.table) table m.runs m.read all stores in
    record {
      comes = (statement.changed s site what all, written_is law frame tables at found table what m ∙ ap (λ (r : Result (List Change) Reply). and_then r (λ all. Ok (statement.changed s site what all))) e, refl, sym left.after, λ h. let no = sym h ∙ tells site what all m.said in cc);
      forms = left.forms;
      stored = left.stored;
    }

-- ---- what the calls answer

-- The number of rows is counted, where they are as few as there may be.
pub count_is : (frame : State) (own : List OwnTable) (count : ℕ) → IsState (meant frame (map seen own)) → count ≡ min (own_count own) (2 ^ 64 - 1) → (count ≡ stored_count (map seen own)) × (count ≤ 262144)
count_is frame own count stands e =
    let few : stored_count (map seen own) ≤ max_rows = subst (λ n. n ≤ max_rows) (count_meant (map seen own)) stands.few in
    let same = count_seen own in
    let is : count ≡ stored_count (map seen own) = omega (arith, few, same, e) in
    (is, subst (λ n. n ≤ 262144) (sym is) few)

-- What it comes to through this site, where there are so many rows, by the changes that are accepted.
pub record Writing (frame : State) (tables : List StoredTable) (at : ℕ) (table : OwnTable) (what : Job) (site : Site) (count : ℕ) : Type 0 where
  pub settles : (all : List Change) → accepted (seen table) count site what ≡ Ok all → Settled frame tables (statement.written (meant frame tables) site what) (written_reply site what all) (slice_set tables at (changed all table))
  pub refuses : (reply : Reply) → accepted (seen table) count site what ≡ Err reply → statement.written (meant frame tables) site what ≡ Err reply

pub writing_at : Below → (frame : State) (own : List OwnTable) (at : ℕ) (d : OwnTable) (what : Job) (site : Site) (count : ℕ) → Runs frame (map seen own) → IsSite frame site → IsStatement what → JobStands (shape_of site.here) what
    → at < length own → option_map (λ table. table.number) (slice_get own at) ≡ Some (number_of site.here) → count ≡ min (own_count own) (2 ^ 64 - 1) → Writing frame (map seen own) at (slice_index_or own at d) what site count
writing_at law frame own at d what site count runs is said settled h n e =
    let tables = map seen own in
    let table = slice_index_or own at d in
    let on = subst (λ site. IsRead tables at (number_of site.here) (seen table) → JobStands (shape_of site.here) what → Writing frame tables at table what site (stored_count tables)) (sym is.1) (λ read settled.
    let meets : Meets frame tables at is.0 table what = record { runs = runs; stands = is.2; read = read; said = said; settled = settled } in
    record {
      settles = settled_at law frame tables at is.0 table what meets;
      refuses = λ reply e. written_is law frame tables at is.0 table what meets ∙ ap (λ (r : Result (List Change) Reply). and_then r (λ all. Ok (statement.changed (meant frame tables) (site_of frame is.0) what all))) e;
    }) in
    subst (Writing frame tables at table what site) (sym (count_is frame own count runs.stands e).0) (on (read_at own at (number_of site.here) d table h n refl) settled)

pub refused_comes : (frame : State) (tables : List StoredTable) (outcome : Outcome) (wanted : Result (List Change) Reply) (stop : Stop Reply) (result : Result Reply (Stop Reply)) → result ≡ Err stop → Answers {T = List Change} wanted (Err stop) → ((reply : Reply) → wanted ≡ Err reply → outcome ≡ Err reply) → Comes frame tables outcome result tables
refused_comes frame tables outcome wanted (Because reply) result e a h = subst (λ r. Comes frame tables outcome r tables) (sym e) (h reply a, refl)
refused_comes frame tables outcome wanted NoMemory result e a h = subst (λ r. Comes frame tables outcome r tables) (sym e) refl

pub settled_with : (frame : State) (own : List OwnTable) (at : ℕ) (d table : OwnTable) (outcome : Outcome) (reply told : Reply) (all : List Change) (new : List StoredTable) → at < length own → table ≡ slice_index_or own at d → reply ≡ told → Some new ≡ with_changes at all own
    → Settled frame (map seen own) outcome told (slice_set (map seen own) at (changed all table)) → Settled frame (map seen own) outcome reply new
settled_with frame own at d table outcome reply told all new h t r n s =
    let got : slice_get own at ≡ Some table = slice_get-get_or own at d h ∙ ap Some (sym t) in
    let same : new ≡ slice_set (map seen own) at (changed all table) = some_same new (slice_set (map seen own) at (changed all table)) (n ∙ ap (option_map (λ table. slice_set (map seen own) at (changed all table))) got) in
    subst (Settled frame (map seen own) outcome reply) (sym same) (subst (λ r. Settled frame (map seen own) outcome r (slice_set (map seen own) at (changed all table))) (sym r) s)
