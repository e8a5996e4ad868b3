-- What the first step of rolling back leaves.
use Rattle.roll_core.proofs.Words.{Below, ◌≡◌, ◌∙◌, ℕ, List, [], ◌∷◌, true, Option, Some, None, Ok, Err, inl, inr, is_some, map, ap, refl, sym, subst, slice_get, AllByRecursion, unwrap_or, if◌then◌else◌}
use Rattle.roll_core.proofs.Words.{Kind, Kept, Unfinished, Value, row_fits, shape_of, State, HalfStands, IsState, RowsStand, Shared, active_name, by_rolling_back, roll_back, rollback, shared, shown_on}
use Rattle.roll_core.proofs.Words.{standing_alone, staying_row, stepped_back, table_on, tidied_back, unfilled, New, Old, CommandOutcome, Rollback, Table, Pair, IsPair, IsPairedRow}
use Rattle.roll_core.proofs.Words.{new_view, old_view, lost_weight, Paired, Returned, AreKept, Goes, IsStored, IsStoredRow, IsStoredTable, Stored, StoredRow, StoredTable, halves_of, kept, left_parts}
use Rattle.roll_core.proofs.Words.{MayLeave, meaning, meant, pair_over}
use Rattle.roll_core.proofs.Words.kind
use Rattle.roll_core.proofs.Departing.{RowsStay, is_active, is_left}
use Rattle.roll_core.proofs.Runs.{both_pair}
use Rattle.roll_core.proofs.Tables.{all_at, rows_of-read}

-- ---- rows

-- What is shown of a row through the new version is what its view selects, whether it is filled or not.
shown_new : Below → (pair : Pair) → IsPair pair → (values : List Value) → IsPairedRow pair values → row_fits pair.old (old_view pair values) ≡ true
    → shown_on New pair.lens (halves_of (Paired pair) values) ≡ new_view pair values
shown_new law pair is values stored fit =
    let old = old_view pair values in
    let shown : Option (List Value) → List Value = λ half. unwrap_or half (unfilled pair.lens old) in
    elim stored [
      | inl filled ↦ ap (λ b. shown (if b then None else Some (new_view pair values))) (law.filled_long pair values is filled).1
      | inr begun ↦
          let left = law.unfilled pair values is begun in
          ap (λ b. shown (if b then None else Some (new_view pair values))) left.1 ∙ sym (law.begun pair old is fit).new_shown ∙ ap (new_view pair) (sym left.2)
    ]

half_fits : (s : State) (number : ℕ) (table : Table) (row : StoredRow) (values : List Value) → table_on s Old number ≡ Some table → HalfStands (table_on s Old number) row.0 (Some values)
    → row_fits (shape_of table) values ≡ true
half_fits s number table row values e h = (subst (λ (table : Option Table). HalfStands table row.0 (Some values)) e h).0

rows_return : Below → (s : State) (number : ℕ) (both : Shared) → IsPair (pair_over both) → table_on s Old number ≡ Some both.old → (rows : List StoredRow) → RowsStand s number (map (kept (Paired (pair_over both))) rows)
    → AllByRecursion (λ row. IsPairedRow (pair_over both) row.1) rows → RowsStay New (pair_over both) rows
rows_return law s number both is old [] h stored = record { means = refl; stored = tt }
rows_return law s number both is old (row ∷ rows) h stored =
    let pair = pair_over both in
    let fit = half_fits s number both.old row (old_view pair row.1) old h.0.old in
    let shown = shown_new law pair is row.1 stored.0 fit in
    let rest = rows_return law s number both is old rows h.1 stored.1 in
    let weighing : List Value → Kept = λ shown. record { key = row.0; halves = record { old = Some (old_view pair row.1); new = None }; lost = lost_weight pair.lens.new_cols shown } in
    record {
      means = ap (λ (k : Kept). k ∷ map (kept (Returned pair)) rows) (ap weighing (sym shown))
          ∙ ap (λ (ks : List Kept). staying_row New (Some pair.lens) (kept (Paired pair) row) ∷ ks) rest.means;
      stored = (law.paired_laid pair row.1 is stored.0, rest.stored);
    }

-- The rows of a table that both versions have stay, whatever they are.
all_return : Below → (frame : State) (all : List StoredTable) → IsState (meant frame all) → (at : ℕ) (table : StoredTable)
    → slice_get all at ≡ Some table → AllByRecursion (λ row. IsStoredRow table.form row.1) table.rows → (both : Shared) → shared frame table.number ≡ Some both → table.form ≡ Paired (pair_over both)
    → RowsStay New (pair_over both) table.rows
all_return law frame all stands at table e stored both shares form =
    let s = meant frame all in
    let number = table.number in
    let read = rows_of-read law frame all at number table stands (record { here = e; numbered = refl }) in
    let rows = subst (RowsStand s number) read (law.rows s number stands).1 in
    rows_return law s number both (both_pair law s number both stands shares) (law.shared s number both stands shares).old table.rows
    (subst (λ form. RowsStand s number (map (kept form) table.rows)) form rows) (subst (λ form. AllByRecursion (λ row. IsStoredRow form row.1) table.rows) form stored)

-- ---- the step

-- Where the new version goes nothing is asked of the tables.
pub all_may_leave : (tables : List StoredTable) → AllByRecursion (MayLeave New) tables
all_may_leave [] = tt
all_may_leave (table ∷ tables) = (tt, all_may_leave tables)

abbrev rollback_by : State → Kind → CommandOutcome
rollback_by s kind.Nothing = roll_back s s.mode
rollback_by s kind.Complete = Err (Unfinished kind.Complete)
rollback_by s kind.Rollback = Ok (tidied_back s)

-- It goes as the machine's does.
pub returns_old : Below → (stored : Stored) → IsStored stored → stored.frame.kind ≡ kind.Nothing → is_some (active_name stored.frame.mode) ≡ true
    → Goes stored (rollback (meaning stored)) (Ok (Rollback 1)) (left_parts New stored) × AreKept (left_parts New stored)
returns_old law stored is k live =
    let s = meaning stored in
    let frame = stored.frame in
    let tables = stored.tables in
    let a = is_active frame.mode live in
    let done = is_left law New frame stored.former tables a is (λ at table e. all_return law frame tables is.stands at table e (all_at (IsStoredTable stored) tables at table is.tables e).rows) in
    let step = stepped_back 1 (standing_alone by_rolling_back s.version s.schema a.fates s) in
    ((step, ap (rollback_by s) k ∙ ap (roll_back s) a.is, refl, done.means), done.kept)
