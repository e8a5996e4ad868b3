-- Whether the rows allow that a migration is completed, and what its first step leaves then.
use Rattle.roll_core.proofs.Words.{ℤ, Each, Below, meaning, ◌≡◌, ◌∙◌, ℕ, List, [], ◌∷◌, Bool, true, false, Option, Some, None, Ok, Err, is_some, map, ap, refl, sym, subst, option_map, rows_of}
use Rattle.roll_core.proofs.Words.{option_and_then, if◌then◌else◌, slice_get, AllByRecursion, option_map_or, option_or, either_none, Value, least, Kind, Refusal, NotFilled, Unfinished, Kept}
use Rattle.roll_core.proofs.Words.{first_some, without, name_of, broken_constraint, State, complete, finish, not_valid, numbers_of, stepped, tidied, CommandOutcome, Complete, IsState, Shared, active_name, shared}
use Rattle.roll_core.proofs.Words.{table_on, New, Old, Pair, IsPair, IsLaidRow, IsPairedRow, PairedRowsAreLaid, is_marked, new_view, old_view, Paired, Left, meant, numbers_in, AreKept, Goes}
use Rattle.roll_core.proofs.Words.{invalid_in, left_parts, may_not_complete, not_filled_in, IsStored, IsStoredRow, IsStoredTable, Stored, StoredRow, StoredTable, by_completing, kept, pair_over, rows_meant}
use Rattle.roll_core.proofs.Words.{staying_row, standing_alone, table_meant}
use Rattle.roll_core.proofs.Words.kind
use Rattle.roll_core.proofs.Words.migrate
use Rattle.row_rules.specs.Rows.{missing_keys}
use Rattle.roll_core.proofs.Departing.{Active, RowsStay, is_active, is_left}
use Rattle.roll_core.proofs.Runs.{active_form, both_pair}
use Rattle.roll_core.proofs.Words.{MayLeave, NoneMissing, over_pair, side_alone}
use Rattle.roll_core.proofs.Tables.{all_at, each_place, got_mapped, numbers_of-meant, rows_of-read}

-- ---- why it may not be completed

filled_same : (frame : State) (all : List StoredTable) (table : StoredTable) → rows_of (meant frame all) table.number ≡ rows_meant table → migrate.not_filled_in (meant frame all) table.number ≡ not_filled_in frame table
filled_same frame all table r =
    let least_of = λ (both : Shared) (keys : List ℤ). option_map {U = Refusal} (λ key. NotFilled (name_of both.new) key) (least keys) in
    elim (shared frame table.number) as (λ both. option_and_then {U = Refusal} (λ pair. least_of pair (option_map_or (λ pair. missing_keys (rows_of (meant frame all) table.number)) both [])) both
    ≡ option_and_then (λ both. least_of both (missing_keys (rows_meant table))) both) [ None ↦ refl | Some both ↦ ap (λ (rows : List Kept). least_of both (missing_keys rows)) r ]

valid_same : (frame : State) (all : List StoredTable) (table : StoredTable) → rows_of (meant frame all) table.number ≡ rows_meant table → migrate.invalid_in (meant frame all) table.number ≡ invalid_in frame table
valid_same frame all table r = ap (λ (rows : List Kept). option_and_then (λ newer. broken_constraint newer rows) (table_on frame New table.number)) r

-- The tables have the rows that the state has.
abbrev RowsAre : State → List StoredTable → List StoredTable → Type 0
RowsAre frame all tables = AllByRecursion (λ table. rows_of (meant frame all) table.number ≡ rows_meant table) tables

rows_are : Below → (frame : State) (all : List StoredTable) → IsState (meant frame all) → RowsAre frame all all
rows_are law frame all stands = each_place (λ table. rows_of (meant frame all) table.number ≡ rows_meant table) all (λ at table e. rows_of-read law frame all at table.number table stands (record { here = e; numbered = refl }))

filled_all : (frame : State) (all tables : List StoredTable) → RowsAre frame all tables → migrate.not_filled (meant frame all) (numbers_in tables) ≡ first_some (not_filled_in frame) tables
filled_all frame all [] h = refl
filled_all frame all (table ∷ tables) h = ap (λ o. option_or o (migrate.not_filled (meant frame all) (numbers_in tables))) (filled_same frame all table h.0) ∙ ap (option_or (not_filled_in frame table)) (filled_all frame all tables h.1)

valid_all : (frame : State) (all tables : List StoredTable) → RowsAre frame all tables → migrate.invalid (meant frame all) (numbers_in tables) ≡ first_some (invalid_in frame) tables
valid_all frame all [] h = refl
valid_all frame all (table ∷ tables) h = ap (λ o. option_or o (migrate.invalid (meant frame all) (numbers_in tables))) (valid_same frame all table h.0) ∙ ap (option_or (invalid_in frame table)) (valid_all frame all tables h.1)

-- What is looked at in place is what the machine looks at.
pub may_same : Below → (frame : State) (tables : List StoredTable) → IsState (meant frame tables) → migrate.may_not_complete (meant frame tables) ≡ may_not_complete frame tables
may_same law frame tables stands =
    let s = meant frame tables in
    let rows = rows_are law frame tables stands in
    ap (λ ns. option_or (migrate.not_filled s ns) (option_map not_valid (migrate.invalid s ns))) (numbers_of-meant frame tables)
    ∙ ap (λ o. option_or o (option_map not_valid (migrate.invalid s (numbers_in tables)))) (filled_all frame tables tables rows)
    ∙ ap (λ o. option_or (first_some (not_filled_in frame) tables) (option_map not_valid o)) (valid_all frame tables tables rows)

-- ---- nothing is left to be filled

-- A row that has its new half isn't marked.
unmarked : (pair : Pair) (rows : List StoredRow) → Each (λ row. is_some row.halves.new ≡ true) (map (kept (Paired pair)) rows) → Each (λ row. is_marked pair row.1 ≡ false) rows
unmarked pair [] h = tt
unmarked pair (row ∷ rows) h =
    let here = elim (is_marked pair row.1) as (λ b. is_some (if◌then◌else◌ {A = Option (List Value)} b None (Some (new_view pair row.1))) ≡ true → b ≡ false) [ true ↦ λ h. cc | false ↦ λ h. refl ] h.0 in
    (here, unmarked pair rows h.1)

-- The new half of such a row stays.
rows_stay : (pair : Pair) (rows : List StoredRow) → AllByRecursion (λ row. is_marked pair row.1 ≡ false) rows → map (kept (Left pair)) rows ≡ map (staying_row Old (Some pair.lens)) (map (kept (Paired pair)) rows)
rows_stay pair [] h = refl
rows_stay pair (row ∷ rows) h =
    let f : Bool → Kept = λ b. record { key = row.0; halves = record { old = if b then None else Some (new_view pair row.1); new = None }; lost = migrate.lost_weight pair.lens.old_cols (old_view pair row.1) } in
    ap (λ (k : Kept). k ∷ map (kept (Left pair)) rows) (sym (ap f h.0)) ∙ ap (λ (rs : List Kept). staying_row Old (Some pair.lens) (kept (Paired pair) row) ∷ rs) (rows_stay pair rows h.1)

rows_laid : PairedRowsAreLaid → (pair : Pair) (rows : List StoredRow) → IsPair pair
    → AllByRecursion (λ row. IsPairedRow pair row.1) rows → AllByRecursion (λ row. IsLaidRow pair row.1) rows
rows_laid law pair [] is h = tt
rows_laid law pair (row ∷ rows) is h = (law pair row.1 is h.0, rows_laid law pair rows is h.1)

-- Where none is to be filled no row of a table that both versions have is marked.
none_marked : Below → (frame : State) (all : List StoredTable) → IsState (meant frame all)
    → migrate.not_filled (meant frame all) (numbers_of (meant frame all)) ≡ None → (at : ℕ) (table : StoredTable)
    → slice_get all at ≡ Some table → (both : Shared) → shared frame table.number ≡ Some both
    → table.form ≡ Paired (pair_over both) → Each (λ row. is_marked (pair_over both) row.1 ≡ false) table.rows
none_marked law frame all stands filled at table e both is form =
    let s = meant frame all in
    let got = got_mapped table_meant all at table e in
    let new = all_at (λ (table : ℕ × List Kept). is_some (table_on s New table.0) ≡ true → Each (λ row. is_some row.halves.new ≡ true) table.1) s.tables at (table_meant table) (law.halves s stands filled) got in
    let there : is_some (table_on s New table.number) ≡ true = ap is_some (law.shared s table.number both stands is).new in
    unmarked (pair_over both) table.rows (subst (λ form. Each (λ row. is_some row.halves.new ≡ true) (map (kept form) table.rows)) form (new there))

-- So the rows of a table that both versions have stay.
filled_stay : Below → (frame : State) (all : List StoredTable) → IsState (meant frame all) → migrate.not_filled (meant frame all) (numbers_of (meant frame all)) ≡ None → (at : ℕ) (table : StoredTable)
    → slice_get all at ≡ Some table → AllByRecursion (λ row. IsStoredRow table.form row.1) table.rows → (both : Shared) → shared frame table.number ≡ Some both → table.form ≡ Paired (pair_over both)
    → RowsStay Old (pair_over both) table.rows
filled_stay law frame all stands filled at table e stored both is form =
    let s = meant frame all in
    let pair = pair_over both in
    let marks = none_marked law frame all stands filled at table e both is form in
    let paired = subst (λ form. AllByRecursion (λ row. IsStoredRow form row.1) table.rows) form stored in
    record { means = rows_stay pair table.rows marks; stored = rows_laid law.paired_laid pair table.rows (both_pair law s table.number both stands is) paired }

-- ---- the first step

none_to_fill : Below → (frame : State) (tables : List StoredTable) → IsState (meant frame tables)
    → may_not_complete frame tables ≡ None
    → migrate.not_filled (meant frame tables) (numbers_of (meant frame tables)) ≡ None
none_to_fill law frame tables stands may =
    let none = (either_none (first_some (not_filled_in frame) tables) (option_map not_valid (first_some (invalid_in frame) tables)) may).0 in
    ap (migrate.not_filled (meant frame tables)) (numbers_of-meant frame tables)
    ∙ filled_all frame tables tables (rows_are law frame tables stands) ∙ none

-- Each table may be left as it is stored.
pub may_leave : Below → (stored : Stored) → IsStored stored → is_some (active_name stored.frame.mode) ≡ true
    → may_not_complete stored.frame stored.tables ≡ None → Each (MayLeave Old) stored.tables
may_leave law stored is live may =
    let frame = stored.frame in
    let tables = stored.tables in
    let a = is_active frame.mode live in
    let filled = none_to_fill law frame tables is.stands may in
    each_place (MayLeave Old) tables (λ at table e.
    let form = (all_at (IsStoredTable stored) tables at table is.tables e).form ∙ active_form stored.former frame table.number a.name a.schema a.fates a.is in
    elim (shared frame table.number) as (λ both. shared frame table.number ≡ both → table.form ≡ over_pair Paired (side_alone frame table.number) both → MayLeave Old table) [
      | None ↦ λ alone form. subst (λ form. NoneMissing form table.rows) (sym form) tt
      | Some both ↦ λ shares form. subst (λ form. NoneMissing form table.rows) (sym form) (none_marked law frame tables is.stands filled at table e both shares form)
    ] refl form)

abbrev complete_by : State → Kind → CommandOutcome
complete_by s kind.Nothing = finish s s.mode
complete_by s kind.Complete = Ok (tidied s)
complete_by s kind.Rollback = Err (Unfinished kind.Rollback)

complete_is : (s : State) (a : Active s.mode) → s.kind ≡ kind.Nothing → complete s ≡ without (migrate.may_not_complete s) (stepped 1 (standing_alone by_completing a.name a.schema a.fates s))
complete_is s a k = ap (complete_by s) k ∙ ap (finish s) a.is

pub finish_refused : Below → (frame : State) (tables : List StoredTable) (refusal : Refusal) → IsState (meant frame tables) → frame.kind ≡ kind.Nothing → is_some (active_name frame.mode) ≡ true
    → may_not_complete frame tables ≡ Some refusal → complete (meant frame tables) ≡ Err refusal
finish_refused law frame tables refusal stands k live h =
    let s = meant frame tables in
    let a = is_active frame.mode live in
    complete_is s a k ∙ ap (λ may. without may (stepped 1 (standing_alone by_completing a.name a.schema a.fates s))) (may_same law frame tables stands ∙ h)

-- It goes as the machine's does.
pub finishes : Below → (stored : Stored) → IsStored stored → stored.frame.kind ≡ kind.Nothing → is_some (active_name stored.frame.mode) ≡ true → may_not_complete stored.frame stored.tables ≡ None
    → Goes stored (complete (meaning stored)) (Ok (Complete 1)) (left_parts Old stored) × AreKept (left_parts Old stored)
finishes law stored is k live may =
    let s = meaning stored in
    let frame = stored.frame in
    let tables = stored.tables in
    let a = is_active frame.mode live in
    let filled = none_to_fill law frame tables is.stands may in
    let done = is_left law Old frame stored.former tables a is (λ at table e. filled_stay law frame tables is.stands filled at table e (all_at (IsStoredTable stored) tables at table is.tables e).rows) in
    let step = stepped 1 (standing_alone by_completing a.name a.schema a.fates s) in
    let outcome = complete_is s a k ∙ ap (λ may. without may step) (may_same law frame tables is.stands ∙ may) in
    ((step, outcome, refl, done.means), done.kept)
