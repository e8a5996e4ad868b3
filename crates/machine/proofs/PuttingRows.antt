-- Changes from outside may be made exactly where they leave a lawful state that stands.
use Rattle.std.proofs.Common.{◌≡◌, ◌∙◌, ℕ, ◌+◌, ◌≤◌, ℤ, List, [], ◌∷◌, Bool, true, false, not, ◌||◌, ◌&&◌, nat_eq, nat_lt, Option, Some, None, is_none, is_some, refl, sym, ap, subst, int_eq, length, map, arith}
use Rattle.std.specs.List.{AllByRecursion as Each, list_all, list_any}
use Rattle.std.proofs.lemmas.Bool.Decides.{nat_tests}
use Rattle.sql_base.specs.Laws.{all_true, both}
use Rattle.sql_base.specs.declared.shapes.Unique.{Unique}
use Rattle.sql_base.specs.declared.values.Value.{Value}
use Rattle.sql_eval.specs.Row.{clash, least_clash, values_of}
use Rattle.mig_lens.specs.declared.columns.Side.{Side}
use Rattle.mig_lens.specs.declared.columns.Side.TheVariants.{Old, New}
use Rattle.mig_lens.specs.Plan.{Table}
use Rattle.row_rules.specs.Accept.{clashes_on, has_key, keys_of, present}
use Rattle.row_rules.specs.Changes.{after_changes, keys_changed}
use Rattle.row_rules.specs.Site.{shape_of}
use Rattle.machine.specs.Below.{Below}
use Rattle.machine.specs.Lawful.{HasNoClash, IsLawful, IsLawfulRow}
use Rattle.machine.specs.Laws.{FramesTell, KeepingRowsMayBePut, PutRowsKeepStates, with_changes}
use Rattle.machine.specs.MayPut.{clash_cause, may_hold, may_put, may_put_beside, rows_gone, rows_left, too_many}
use Rattle.machine.specs.Migrate.{numbers_of}
use Rattle.machine.specs.Standing.{IsState, NoneLost, RowStands, may_lose}
use Rattle.machine.specs.State.{row_count, rows_of, table_on}
use Rattle.machine.specs.Statement.{max_rows}
use Rattle.machine.specs.Words.{Change, Kept, Kind, Mode, Schema, State}
use Rattle.machine.proofs.Clashes.{IsAmong, Quiet, all_quiet, each_at, fresh_lookup, no_cause}
use Rattle.machine.proofs.Emptying.{same_key}
use Rattle.machine.proofs.LastChanges.{count_after, left_among, left_each}
use Rattle.machine.proofs.LawfulRows.{rows_lawful, with_rows_lawful}
use Rattle.machine.proofs.LawfulTables.{changed_unique, found_unique}
use Rattle.machine.proofs.Moving.{each_both, each_list, each_so, list_each}
use Rattle.machine.proofs.PutTests.{Apart, Holds, apart_test, apart_true, holds_test, holds_true, is_none_of, none_is}
use Rattle.machine.proofs.Replacing.{each_row, replaced_stands, row_carries, rows_each, rows_so, rows_stand, with_rows_count, with_rows_count_is, with_rows_found}

-- ---- what may be put keeps the state

record Passed (s : State) (number : ℕ) (all : List Change) : Type 0 where
  left : Each (Holds s number) (rows_left all)
  apart : Apart s number (after_changes all (rows_of s number)) (keys_changed all)
  few : row_count s + length (rows_left all) ≤ max_rows + rows_gone (rows_of s number) all

passed : (s : State) (number : ℕ) (all : List Change) → may_put s number all ≡ true → Passed s number all
passed s number all h =
    let older = rows_of s number in
    let quiet = clash_cause s number (after_changes all older) (keys_changed all) in
    let many = too_many older (row_count s) all in
    let first = both (list_all (may_hold s number) (rows_left all)) (is_none quiet && not many) h in
    let second = both (is_none quiet) (not many) first.1 in
    record {
      left = each_so (λ row. may_hold s number row ≡ true) (Holds s number) (holds_true s number) (rows_left all) (list_each (may_hold s number) (rows_left all) first.0);
      apart = apart_true s number (after_changes all older) (keys_changed all) (none_is quiet second.0);
      few = is_few (row_count s + length (rows_left all)) (max_rows + rows_gone older all) second.1;
    }
  where
    is_few : (a b : ℕ) → not (nat_lt b a) ≡ true → a ≤ b
    is_few a b h = grind (arith, nat_tests)

-- Each row afterwards may be one of the table.
rows_hold : Below → (s : State) (number : ℕ) (all : List Change) → IsState s → IsLawful s → Passed s number all →
    Each (RowStands s number) (after_changes all (rows_of s number)) × Each (IsLawfulRow s number) (after_changes all (rows_of s number))
rows_hold below s number all stands lawful pass =
    let older = rows_of s number in
    let before = rows_stand s number stands in
    let left = rows_left all in (
      left_each below.order (RowStands s number) all older before.0 (each_so (Holds s number) (RowStands s number) (λ row h. h.stands) left pass.left) (rows_each s number older before.1),
      left_each below.order (IsLawfulRow s number) all older before.0 (each_so (Holds s number) (IsLawfulRow s number) (λ row h. h.lawful) left pass.left) (rows_lawful s number lawful.rows),
    )

still_stands : Below → (s : State) (number : ℕ) (all : List Change) → IsState s → IsLawful s → Passed s number all → IsState (with_changes s number all)
still_stands below s number all stands lawful pass =
    let older = rows_of s number in
    let rows = after_changes all older in
    let before = rows_stand s number stands in
    let counts = count_after below.order all older before.0 in
    let total = with_rows_count s number rows stands in
    let few = pass.few in
    replaced_stands s number rows stands (below.order all older before.0) (each_row s number rows (rows_hold below s number all stands lawful pass).0)
    (λ none. left_each below.order (λ row. row.lost ≡ 0) all older before.0
    (each_so (Holds s number) (λ row. row.lost ≡ 0) (λ row h. h.lost none) (rows_left all) pass.left)
    (rows_so (λ number rows. NoneLost rows) number tt s.tables (stands.lost none).rows))
    (omega (arith, counts, total, few))

still_lawful : Below → (s : State) (number : ℕ) (all : List Change) → IsState s → IsLawful s → Passed s number all → IsLawful (with_changes s number all)
still_lawful below s number all stands lawful pass =
    let older = rows_of s number in
    let before = rows_stand s number stands in
    record {
      rows = with_rows_lawful s number (after_changes all older) lawful.rows (rows_hold below s number all stands lawful pass).1;
      unique = changed_unique s number all before.0 (below.order all older before.0) lawful.unique pass.apart.old pass.apart.new;
    }

pub put_rows_keep_states : Below → PutRowsKeepStates
put_rows_keep_states below s number all stands lawful h =
    let pass = passed s number all h in
    (still_stands below s number all stands lawful pass, still_lawful below s number all stands lawful pass)

-- ---- what keeps the state may be put

-- What holds of each of these keys holds of a key that a row has.
at_key : (P : ℤ → Type 0) (key : ℤ) (rows : List Kept) → Each P (keys_of rows) → has_key key rows ≡ true → P key
at_key P key [] h has = cc
at_key P key (row ∷ rows) h has = by_key (int_eq key row.key) refl has (at_key P key rows h.1)
  where
    by_key : (b : Bool) → int_eq key row.key ≡ b → (b || has_key key rows) ≡ true → (has_key key rows ≡ true → P key) → P key
    by_key true same has there = subst P (sym (same_key key row.key same)) h.0
    by_key false differ has there = there has

-- Where no row clashes, the row of no key does: not that of a key which no row has either.
quiet_at : (unique : Unique) (side : Side) (rows : List Kept) → Quiet unique (present side rows) (keys_of rows) → (keys : List ℤ) → Quiet unique (present side rows) keys
quiet_at unique side rows q [] = tt
quiet_at unique side rows q (key ∷ keys) = (by_test (has_key key rows) refl, quiet_at unique side rows q keys)
  where
    by_test : (b : Bool) → has_key key rows ≡ b → is_some (clash unique (present side rows) key) ≡ false
    by_test true has = at_key (λ key. is_some (clash unique (present side rows) key) ≡ false) key rows q has
    by_test false none = ap (λ o. is_some {T = ℤ} (elim o [
      | None ↦ None
      | Some values ↦ least_clash (values_of unique values) (map (λ (r : ℤ × List Value). (r.0, values_of unique r.1)) (present side rows)) key
    ])) (fresh_lookup side key rows none)

clashes_at : (table : Option Table) (side : Side) (rows : List Kept) (keys : List ℤ) → clashes_on table side rows (keys_of rows) ≡ None → clashes_on table side rows keys ≡ None
clashes_at None side rows keys h = refl
clashes_at (Some table) side rows keys h =
    let entries = present side rows in
    no_cause entries keys (shape_of table).uniques
    (each_so (λ unique. Quiet unique entries (keys_of rows)) (λ unique. Quiet unique entries keys) (λ unique q. quiet_at unique side rows q keys) (shape_of table).uniques
    (all_quiet entries (keys_of rows) (shape_of table).uniques h))

-- The rows of the table in the state afterwards.
abbrev after : State → ℕ → List Change → List Kept
after s number all = after_changes all (rows_of s number)

each_found : (s : State) (number : ℕ) (all : List Change) → list_any (nat_eq number) (numbers_of s) ≡ true → (P : Kept → Type 0) → Each P (rows_of (with_changes s number all) number) → Each P (after s number all)
each_found s number all known P h = subst (Each P) (with_rows_found s number (after s number all) known) h

hold_after : (s : State) (number : ℕ) (all : List Change) → list_any (nat_eq number) (numbers_of s) ≡ true → IsState (with_changes s number all) → IsLawful (with_changes s number all) → Each (Holds s number) (after s number all)
hold_after s number all known stands lawful =
    let t = with_changes s number all in
    let rows = after s number all in
    let stand = each_found s number all known (RowStands t number) (rows_each t number (rows_of t number) (rows_stand t number stands).1) in
    let laws = each_found s number all known (IsLawfulRow t number) (rows_lawful t number lawful.rows) in
    let lose : Each (λ row. may_lose s.kind s.left ≡ false → row.lost ≡ 0) rows = none_lost rows (λ none. each_found s number all known (λ row. row.lost ≡ 0) (rows_so (λ number rows. NoneLost rows) number tt t.tables (stands.lost none).rows)) in
    each_both (λ row. RowStands t number row × IsLawfulRow t number row) (λ row. may_lose s.kind s.left ≡ false → row.lost ≡ 0) (Holds s number)
    (λ row h lost. record { stands = row_carries t s refl refl number row h.0; lawful = record { old = h.1.old; new = h.1.new; light = h.1.light }; lost = lost })
    rows (each_both (RowStands t number) (IsLawfulRow t number) (λ row. RowStands t number row × IsLawfulRow t number row) (λ row a b. (a, b)) rows stand laws) lose
  where
    none_lost : (rows : List Kept) → (may_lose s.kind s.left ≡ false → NoneLost rows) → Each (λ row. may_lose s.kind s.left ≡ false → row.lost ≡ 0) rows
    none_lost [] h = tt
    none_lost (row ∷ rows) h = (λ none. (h none).0, none_lost rows (λ none. (h none).1))

apart_after : (s : State) (number : ℕ) (all : List Change) → list_any (nat_eq number) (numbers_of s) ≡ true → IsLawful (with_changes s number all) → Apart s number (after s number all) (keys_changed all)
apart_after s number all known lawful =
    let t = with_changes s number all in
    let rows = after s number all in
    let quiet = subst (λ rows. HasNoClash t (number, rows)) (with_rows_found s number rows known) (found_unique t number lawful.unique) in
    record {
      old = clashes_at (table_on s Old number) Old rows (keys_changed all) quiet.old;
      new = λ misses. clashes_at (table_on s New number) New rows (keys_changed all) (quiet.new misses);
    }

few_after : Below → (s : State) (number : ℕ) (all : List Change) → IsState s → list_any (nat_eq number) (numbers_of s) ≡ true → row_count (with_changes s number all) ≤ max_rows → not (too_many (rows_of s number) (row_count s) all) ≡ true
few_after below s number all stands known few =
    let older = rows_of s number in
    let counts = count_after below.order all older (rows_stand s number stands).0 in
    let total = with_rows_count_is s number (after s number all) stands known in
    is_few (row_count s + length (rows_left all)) (max_rows + rows_gone older all) (omega (arith, counts, total, few))
  where
    is_few : (a b : ℕ) → a ≤ b → not (nat_lt b a) ≡ true
    is_few a b h = grind (arith, nat_tests)

pub keeping_rows_may_be_put : Below → KeepingRowsMayBePut
keeping_rows_may_be_put below s number all stands known after_stands after_lawful =
    let older = rows_of s number in
    let rows = after s number all in
    let quiet = clash_cause s number rows (keys_changed all) in
    let many = too_many older (row_count s) all in
    let hold = hold_after s number all known after_stands after_lawful in
    let left : Each (λ row. may_hold s number row ≡ true) (rows_left all) = each_so (IsAmong rows) (λ row. may_hold s number row ≡ true) (λ row here. holds_test s number row (each_at (Holds s number) rows row hold here)) (rows_left all) (left_among all older) in
    all_true (list_all (may_hold s number) (rows_left all)) (is_none quiet && not many) (each_list (may_hold s number) (rows_left all) left)
    (all_true (is_none quiet) (not many) (is_none_of quiet (apart_test s number rows (keys_changed all) (apart_after s number all known after_lawful)))
    (few_after below s number all stands known after_stands.few))

-- ---- what is looked at of the state

pub frames_tell : FramesTell
frames_tell s frame number all schema mode kind left =
    ap (λ x. told x frame.mode frame.kind frame.left) schema ∙ ap (λ x. told s.schema x frame.kind frame.left) mode
    ∙ ap (λ x. told s.schema s.mode x frame.left) kind ∙ ap (λ x. told s.schema s.mode s.kind x) left
  where
    told : Schema → Mode → Kind → ℕ → Bool
    told schema mode kind left = may_put_beside (record s { schema = schema; mode = mode; kind = kind; left = left }) number (rows_of s number) (row_count s) all
