-- A batch: its rows are stored as they are filled, or it is refused as it is refused.
use Rattle.roll_core.proofs.Words.{Site, ◌≡◌, ◌∙◌, ℕ, List, [], true, false, Option, Some, None, Result, Ok, Err, filter, map, take, ap, refl, sym, subst, option_map, slice_get, slice_set, Each}
use Rattle.roll_core.proofs.Words.{option_map_or, and_then_ok, some_same, and_then, Refusal, Cause, Change, Kept, Stop, Because, NoMemory, cause_together, changes, map_fault, without, keys_missing}
use Rattle.roll_core.proofs.Words.{rows_at, is_missing, name_of, number_of, Reply, Filled, State, CommandOutcome, answered, as_outcome, goes_on_filling, leaves_all, batch, fill_keys, least_batch}
use Rattle.roll_core.proofs.Words.{refused_batch, HalvesAgree, SiteRow, Ascends, Found, Shared, filling_site, missing_keys, rows_of, shared, site_of, changed_by, written_reply, New, Form, OwnTable}
use Rattle.roll_core.proofs.Words.{Fills, FillsThrough, batch_at, batch_changes, changes_at, changed, Comes, FormSuits, Runs, RowsStored, SameForms, meant, seen, StoredTable, kept, rows_meant, Below}
use Rattle.roll_core.proofs.Words.finite
use Rattle.roll_core.proofs.Words.job
use Rattle.roll_core.proofs.Rows.{Stores}
use Rattle.roll_core.proofs.Fitting.{Weighs, older_weigh}
use Rattle.roll_core.proofs.Jobs.{job_stores, stored_agree, stored_sites, leaves, placed_weigh}
use Rattle.roll_core.proofs.Outcomes.{err_by, map_fault_ok, ok_by, without_ok}
use Rattle.roll_core.proofs.Missing.{each_taken, first_rows}
use Rattle.roll_core.proofs.Tables.{IsRead, all_at, each_passing, got_mapped, rows_of-read, suits_meant}

-- ---- how it is refused, and how not

made_by : {T : Type 0} (f : Cause → Refusal) (r : Result T Cause) (o : T → Option Refusal) (x : T) → and_then (map_fault f r) (λ y. without (o y) y) ≡ Ok x → r ≡ Ok x
made_by f r o x h =
    let step = and_then_ok (map_fault f r) (λ y. without (o y) y) x h in
    map_fault_ok f r step.0 step.1 ∙ ap Ok (without_ok (o step.0) step.0 x step.2).1

abbrev refused_as : State → Shared → List Kept → List Change → Option Refusal
refused_as s both rows all = option_map (refused_batch (name_of both.new)) (cause_together (filling_site s both) job.Fill rows all)

abbrev made : State → Shared → ℕ → List Kept → Result (List Change) Refusal
made s both n rows = map_fault (refused_batch (name_of both.new)) (changes (filling_site s both) job.Fill (take n (filter is_missing rows)))

batch_over : (s : State) (both : Shared) (n : ℕ) (rows : List Kept) → rows_of s (number_of both.new) ≡ rows → batch s both (take n (filter is_missing rows)) ≡ and_then (made s both n rows) (λ all. without (refused_as s both rows all) (changed_by s (filling_site s both) job.Fill all))
batch_over s both n rows e = ap (λ rs. and_then (made s both n rows) (λ all. without (refused_as s both rs all) (changed_by s (filling_site s both) job.Fill all))) e

-- ---- what it takes

taken : (s : State) (number n : ℕ) (both : Shared) (rows : List Kept) → shared s number ≡ Some both → rows_of s number ≡ rows → Ascends rows → fill_keys s number (take n (missing_keys s number)) ≡ batch s both (take n (filter is_missing rows))
taken s number n both rows is e ascend =
    let keys : missing_keys s number ≡ keys_missing (rows_of s number) = ap (λ (o : Option Shared). option_map_or (λ pair. keys_missing (rows_of s number)) o []) is in
    ap (λ (o : Option Shared). option_map_or {U = CommandOutcome} (λ pair. batch s pair (rows_at (take n (missing_keys s number)) (rows_of s number))) o (Ok (answered s Filled))) is
    ∙ ap (λ keys. batch s both (rows_at (take n keys) (rows_of s number))) keys
    ∙ ap (λ rows. batch s both (rows_at (take n (keys_missing rows)) rows)) e
    ∙ ap (batch s both) (first_rows is_missing n rows ascend)

-- ---- where nothing changes

pub unchanged : (frame : State) (old : List StoredTable) (outcome : CommandOutcome) (result : Result Reply (Stop Reply)) (new : List StoredTable) → Runs frame old → new ≡ old → Comes frame old (as_outcome outcome) result new → Fills frame old outcome result new
unchanged frame old outcome result new runs e c = record {
  answers = c;
  looks = λ h. e;
  forms = ap (map {B = ℕ × Form} (λ table. (table.number, table.form))) e;
  stored = subst (Each RowsStored) (sym e) runs.rows;
}

-- There is nothing to be filled.
pub none_filled : (frame : State) (old : List StoredTable) (outcome : CommandOutcome) → Runs frame old → outcome ≡ Ok (answered (meant frame old) Filled) → Fills frame old outcome (Ok Filled) old
none_filled frame old outcome runs e = unchanged frame old outcome (Ok Filled) old runs refl (answered (meant frame old) Filled, ap as_outcome e, refl, refl, λ h. refl)

-- ---- where rows are filled

-- The table at a place, which both versions have.
pub record Filling (frame : State) (tables : List OwnTable) (at : ℕ) : Type 0 where
  pub table : OwnTable
  pub both : Shared
  pub here : slice_get tables at ≡ Some table
  pub shares : shared frame table.number ≡ Some both

stores : Below → (frame : State) (tables : List OwnTable) (at n : ℕ) (f : Filling frame tables at) → Runs frame (map seen tables) → (all : List Change) → changes (filling_site frame f.both) job.Fill (take n (filter is_missing (rows_meant (seen f.table)))) ≡ Ok all → Each (Stores f.table.form f.table.rows.rows) all
stores law frame tables at n f runs all e =
    let s = meant frame (map seen tables) in
    let form = f.table.form in
    let rows = finite.entries f.table.rows.rows in
    let there = law.filling s f.table.number f.both runs.stands f.shares in
    let found : Found = record { side = New; table = f.both.new } in
    let got = got_mapped seen tables at f.table f.here in
    let suits = subst (λ k. FormSuits s k form) (sym there.0) (suits_meant frame (map seen tables) f.table.number form (all_at (λ table. FormSuits frame table.number table.form) (map seen tables) at (seen f.table) runs.forms got)) in
    let stored = all_at RowsStored (map seen tables) at (seen f.table) runs.rows got in
    let read = rows_of-read law frame (map seen tables) at f.table.number (seen f.table) runs.stands (record { here = got; numbered = refl }) in
    let is = ap (rows_of s) there.0 ∙ read in
    let some : (P : Kept → Type 0) → Each P (map (kept form) rows) → Each P (take n (filter is_missing (map (kept form) rows))) = λ P h. each_taken P n (filter is_missing (map (kept form) rows)) (each_passing is_missing (λ row p _. p) (map (kept form) rows) h) in
    job_stores law s found runs.stands there.1 form f.table.rows.rows suits job.Fill refl tt (take n (filter is_missing (map (kept form) rows)))
    (some (SiteRow (λ lost. Unit {0}) (site_of s found)) (stored_sites law.rows law.on_site s found runs.stands there.1 (map (kept form) rows) is))
    (λ both h. some (λ row. HalvesAgree both.lens row.halves) (stored_agree law.long s (number_of f.both.new) form suits rows both h))
    (Weighs form f.table.rows.rows) (some (λ row. Weighs form f.table.rows.rows row.key row.lost) (older_weigh form f.table.rows.rows stored)) all e (placed_weigh form f.table.rows.rows (site_of s found) all)

pub filled : Below → (frame : State) (tables : List OwnTable) (at n : ℕ) (f : Filling frame tables at) → Runs frame (map seen tables) → (result : Result Reply (Stop Reply)) (new : List StoredTable) → FillsThrough (filling_site frame f.both) job.Fill at n tables result new → Fills frame (map seen tables) (batch_at frame (map seen tables) (Some at) n) result new
filled law frame tables at n f runs result new h = by_result result h
  where
    s : State
    s = meant frame (map seen tables)

    site : Site
    site = filling_site frame f.both

    rows : List Kept
    rows = rows_meant (seen f.table)

    read : IsRead (map seen tables) at (number_of f.both.new) (seen f.table)
    read = record { here = got_mapped seen tables at f.table f.here; numbered = sym (law.filling s f.table.number f.both runs.stands f.shares).0 }

    there : rows_of s (number_of f.both.new) ≡ rows
    there = rows_of-read law frame (map seen tables) at (number_of f.both.new) (seen f.table) runs.stands read

    is : batch_at frame (map seen tables) (Some at) n ≡ and_then (made s f.both n rows) (λ all. without (refused_as s f.both rows all) (changed_by s site job.Fill all))
    is =
        let own = ap (rows_of s) read.numbered ∙ there in
        ap (least_batch s n) (ap (option_map (λ (table : StoredTable). table.number)) read.here)
        ∙ taken s f.table.number n f.both rows f.shares own (subst Ascends own (law.rows s f.table.number runs.stands).0) ∙ batch_over s f.both n rows there

    at_table : (r : Result (List Change) Refusal) → changes_at site job.Fill at n tables ≡ Some r → batch_changes site job.Fill rows n ≡ r
    at_table r e = some_same (batch_changes site job.Fill rows n) r (ap (option_map (λ table. batch_changes site job.Fill (rows_meant (seen table)) n)) (sym f.here) ∙ e)

    put : (reply : Reply) (all : List Change) → batch_changes site job.Fill rows n ≡ Ok all → reply ≡ written_reply site job.Fill all → new ≡ slice_set (map seen tables) at (changed all f.table) → Fills frame (map seen tables) (batch_at frame (map seen tables) (Some at) n) (Ok reply) new
    put reply all e told now =
        let stored = stores law frame tables at n f runs all (made_by (refused_batch (name_of f.both.new)) (changes site job.Fill (take n (filter is_missing rows))) (refused_as s f.both rows) all e) in
        let left = leaves law frame (map seen tables) at (number_of f.both.new) f.table runs read all stored in
        let outcome = is ∙ ok_by (made s f.both n rows) (refused_as s f.both rows) (changed_by s site job.Fill) all e in
        record {
          answers = (changed_by s site job.Fill all, ap as_outcome outcome, told, sym (left.after ∙ ap (meant frame) (sym now)), λ leaves. let is : leaves_all (written_reply site job.Fill all) ≡ true = ap leaves_all (sym told) ∙ leaves in cc);
          looks = λ none. let is : goes_on_filling (written_reply site job.Fill all) ≡ false = ap goes_on_filling (sym told) ∙ none in cc;
          forms = subst (SameForms (map seen tables)) (sym now) left.forms;
          stored = subst (Each RowsStored) (sym now) left.stored;
        }

    by_result : (result : Result Reply (Stop Reply)) → FillsThrough site job.Fill at n tables result new → Fills frame (map seen tables) (batch_at frame (map seen tables) (Some at) n) result new
    by_result (Ok reply) h =
        put reply h.0 (at_table (Ok h.0) h.1) h.2 (some_same new (slice_set (map seen tables) at (changed h.0 f.table)) (h.3 ∙ ap (option_map (λ table. slice_set (map seen tables) at (changed h.0 table))) f.here))
    by_result (Err (Because reply)) h =
        let refused = is ∙ err_by (made s f.both n rows) (refused_as s f.both rows) (changed_by s site job.Fill) h.0 (at_table (Err h.0) h.1) in
        unchanged frame (map seen tables) (batch_at frame (map seen tables) (Some at) n) (Err (Because reply)) new runs h.3 (ap as_outcome refused ∙ ap Err (sym h.2), h.3)
    by_result (Err NoMemory) h = unchanged frame (map seen tables) (batch_at frame (map seen tables) (Some at) n) (Err NoMemory) new runs h h

-- One version alone has the table: there is nothing to be filled.
pub alone : (frame : State) (tables : List OwnTable) (at n : ℕ) (table : OwnTable) → Runs frame (map seen tables) → slice_get tables at ≡ Some table → shared frame table.number ≡ None → Fills frame (map seen tables) (batch_at frame (map seen tables) (Some at) n) (Ok Filled) (map seen tables)
alone frame tables at n table runs e none =
    let s = meant frame (map seen tables) in
    let number = ap (option_map (λ (table : StoredTable). table.number)) (got_mapped seen tables at table e) in
    none_filled frame (map seen tables) (batch_at frame (map seen tables) (Some at) n) runs (ap (least_batch s n) number ∙ ap (λ (o : Option Shared). option_map_or {U = CommandOutcome} (λ pair. batch s pair (rows_at (take n (missing_keys s table.number)) (rows_of s table.number))) o (Ok (answered s Filled))) none)
