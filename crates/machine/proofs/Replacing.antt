-- Tables of a state whose rows are replaced.
use Rattle.std.proofs.Common.{◌≡◌, ◌∙◌, ℕ, ◌+◌, ◌≤◌, List, [], ◌∷◌, Bool, true, false, ◌||◌, ◌==◌, nat_eq, Some, refl, sym, ap, subst, if◌then◌else◌, length, map, find, sum_by, arith, le_of_lt, le_of_eq, lt_of_le_of_lt}
use Rattle.std.specs.List.{AllByRecursion as Each, list_all, list_any}
use Rattle.std.specs.Option.{option_map_or}
use Rattle.std.proofs.lemmas.Bool.Decides.{nat_tests}
use Rattle.std.proofs.lemmas.List.Sums.{sum_by-cons}
use Rattle.sql_base.specs.declared.shapes.Schema.{Schema}
use Rattle.mig_lens.specs.declared.columns.Side.TheVariants.{Old, New}
use Rattle.row_rules.specs.declared.kinds.Kept.{Kept}
use Rattle.machine.specs.declared.states.Mode.{Mode}
use Rattle.machine.specs.declared.states.Mode.TheVariants.{Calm, Both}
use Rattle.machine.specs.declared.states.State.{State}
use Rattle.machine.specs.State.{row_count, rows_of, shared, table_on, with_rows}
use Rattle.machine.specs.Statement.{max_rows}
use Rattle.machine.specs.Migrate.{numbers_of}
use Rattle.machine.specs.Standing.{Ascends, HalfStands, IsState, ModeStands, NewStands, NoneLost, NumbersAscend, RowStands, RowsStand, TablesStand, VersionStands, is_known, may_lose, may_miss}

-- ---- rows of a state

-- What holds of a row depends on the versions alone.
pub row_carries : (s t : State) → t.schema ≡ s.schema → t.mode ≡ s.mode → (number : ℕ) (row : Kept) → RowStands s number row → RowStands t number row
row_carries s t schema mode number row r =
    record {
      old = subst (λ schema. HalfStands (table_on (record s { schema = schema }) Old number) row.key row.halves.old) (sym schema) r.old;
      new =
          let with_schema : NewHolds t.schema s.mode = subst (λ schema. NewHolds schema s.mode) (sym schema) r.new in
          subst (NewHolds t.schema) (sym mode) with_schema;
    }
  where
    NewHolds : Schema → Mode → Type 0
    NewHolds schema mode = NewStands (may_miss (shared (record s { schema = schema; mode = mode }) number)) (table_on (record s { schema = schema; mode = mode }) New number) row.key row.halves.new

pub rows_carry : (s t : State) → t.schema ≡ s.schema → t.mode ≡ s.mode → (number : ℕ) (rows : List Kept) → RowsStand s number rows → RowsStand t number rows
rows_carry s t schema mode number [] h = tt
rows_carry s t schema mode number (row ∷ rows) h = (row_carries s t schema mode number row h.0, rows_carry s t schema mode number rows h.1)

pub rows_each : (s : State) (number : ℕ) (rows : List Kept) → RowsStand s number rows → Each (RowStands s number) rows
rows_each s number [] h = tt
rows_each s number (row ∷ rows) h = (h.0, rows_each s number rows h.1)

pub each_row : (s : State) (number : ℕ) (rows : List Kept) → Each (RowStands s number) rows → RowsStand s number rows
each_row s number [] h = tt
each_row s number (row ∷ rows) h = (h.0, each_row s number rows h.1)

abbrev pub found_rows : ℕ → List (ℕ × List Kept) → List Kept
found_rows number tables = option_map_or (λ table. table.1) (find {X = ℕ × List Kept} (λ table. table.0 == number) tables) []

pub found_rows_stand : (s : State) (number : ℕ) (tables : List (ℕ × List Kept)) → TablesStand s tables → Ascends (found_rows number tables) × RowsStand s number (found_rows number tables)
found_rows_stand s number [] h = (tt, tt)
found_rows_stand s number (table ∷ tables) h = by_test (found_rows_stand s number tables h.2) (table.0 == number) refl
  where
    by_test : Ascends (found_rows number tables) × RowsStand s number (found_rows number tables) → (b : Bool) → (table.0 == number) ≡ b → Ascends (option_map_or (λ table. table.1) (if b then Some table else find {X = ℕ × List Kept} (λ table. table.0 == number) tables) []) × RowsStand s number (option_map_or (λ table. table.1) (if b then Some table else find {X = ℕ × List Kept} (λ table. table.0 == number) tables) [])
    by_test there true e =
        let same : table.0 ≡ number = grind (arith, nat_tests) in
        (h.0, subst (λ n. RowsStand s n table.1) same h.1)
    by_test there false e = there

pub rows_stand : (s : State) (number : ℕ) → IsState s → Ascends (rows_of s number) × RowsStand s number (rows_of s number)
rows_stand s number stands = found_rows_stand s number s.tables stands.tables

-- What holds of each table's rows, and of no rows, holds of the rows of a number.
pub rows_so : (P : ℕ → List Kept → Type 0) (number : ℕ) → P number [] → (tables : List (ℕ × List Kept)) → Each (λ table. P table.0 table.1) tables → P number (found_rows number tables)
rows_so P number none [] h = none
rows_so P number none (table ∷ tables) h = by_test (rows_so P number none tables h.1) (table.0 == number) refl
  where
    by_test : P number (found_rows number tables) → (b : Bool) → (table.0 == number) ≡ b → P number (option_map_or (λ table. table.1) (if b then Some table else find {X = ℕ × List Kept} (λ table. table.0 == number) tables) [])
    by_test there true e =
        let same : table.0 ≡ number = grind (arith, nat_tests) in
        subst (λ n. P n table.1) same h.0
    by_test there false e = there

-- ---- a table whose rows are replaced

abbrev pub replaced : ℕ → List Kept → ℕ × List Kept → ℕ × List Kept
replaced number rows table = if table.0 == number then (number, rows) else table

-- What holds of each table's rows, and of those that replace some, holds afterwards.
pub replaced_so : (P : ℕ → List Kept → Type 0) (number : ℕ) (rows : List Kept) → P number rows → (tables : List (ℕ × List Kept)) → Each (λ table. P table.0 table.1) tables → Each (λ table. P table.0 table.1) (map (replaced number rows) tables)
replaced_so P number rows r [] h = tt
replaced_so P number rows r (table ∷ tables) h = (by_test (table.0 == number), replaced_so P number rows r tables h.1)
  where
    by_test : (b : Bool) → P (if◌then◌else◌ {A = ℕ × List Kept} b (number, rows) table).0 (if◌then◌else◌ {A = ℕ × List Kept} b (number, rows) table).1
    by_test true = r
    by_test false = h.0

replaced_number : (number : ℕ) (rows : List Kept) (table : ℕ × List Kept) → (replaced number rows table).0 ≡ table.0
replaced_number number rows table = by_test (table.0 == number) refl
  where
    by_test : (b : Bool) → (table.0 == number) ≡ b → (if◌then◌else◌ {A = ℕ × List Kept} b (number, rows) table).0 ≡ table.0
    by_test true e = grind (arith, nat_tests)
    by_test false e = refl

replaced_numbers : (number : ℕ) (rows : List Kept) (tables : List (ℕ × List Kept)) → map (λ table. table.0) (map (replaced number rows) tables) ≡ map (λ table. table.0) tables
replaced_numbers number rows [] = refl
replaced_numbers number rows (table ∷ tables) = rw (replaced_number number rows table, replaced_numbers number rows tables) refl

pub with_rows_numbers : (s : State) (number : ℕ) (rows : List Kept) → numbers_of (with_rows s number rows) ≡ numbers_of s
with_rows_numbers s number rows = replaced_numbers number rows s.tables

replaced_tables_stand : (s t : State) → t.schema ≡ s.schema → t.mode ≡ s.mode → (number : ℕ) (rows : List Kept) → Ascends rows → RowsStand s number rows → (tables : List (ℕ × List Kept)) → TablesStand s tables → TablesStand t (map (replaced number rows) tables)
replaced_tables_stand s t schema mode number rows a r [] h = tt
replaced_tables_stand s t schema mode number rows a r (table ∷ tables) h = by_test (replaced_tables_stand s t schema mode number rows a r tables h.2) (table.0 == number)
  where
    by_test : TablesStand t (map (replaced number rows) tables) → (b : Bool) → TablesStand t ((if b then (number, rows) else table) ∷ map (replaced number rows) tables)
    by_test there true = (a, rows_carry s t schema mode number rows r, there)
    by_test there false = (h.0, rows_carry s t schema mode table.0 table.1 h.1, there)

replaced_mode_stands : (s : State) (tables : List (ℕ × List Kept)) →
    map (λ table. table.0) tables ≡ numbers_of s → (mode : Mode) → ModeStands s mode →
    ModeStands (record s { tables = tables }) mode
replaced_mode_stands s tables numbers Calm h = tt
replaced_mode_stands s tables numbers (Both name newer fates) h =
    record { version = subst (λ numbers. VersionStands newer numbers s.next_table) (sym numbers) h.version; named = h.named; no_steps = h.no_steps; fates_stand = h.fates_stand; all = h.all }

pub replaced_stands : (s : State) (number : ℕ) (rows : List Kept) → IsState s → Ascends rows → RowsStand s number rows → (may_lose s.kind s.left ≡ false → NoneLost rows) → row_count (with_rows s number rows) ≤ max_rows → IsState (with_rows s number rows)
replaced_stands s number rows stands a r lost few =
    let t = with_rows s number rows in
    let numbers : numbers_of t ≡ numbers_of s = with_rows_numbers s number rows in
    record {
      steps = stands.steps;
      version = subst (λ numbers. VersionStands s.schema numbers s.next_table) (sym numbers) stands.version;
      mode = replaced_mode_stands s t.tables numbers s.mode stands.mode;
      numbers = subst NumbersAscend (sym numbers) stands.numbers;
      known = subst (λ numbers. list_all (is_known s) numbers ≡ true) (sym numbers) stands.known;
      tables = replaced_tables_stand s t refl refl number rows a r s.tables stands.tables;
      few = few;
      lost = λ none. record { columns = (stands.lost none).columns; rows = replaced_so (λ number rows. NoneLost rows) number rows (lost none) s.tables (stands.lost none).rows };
    }

-- In a table of the state they are the rows of its number.
replaced_found : (number : ℕ) (rows : List Kept) (tables : List (ℕ × List Kept)) → list_any (nat_eq number) (map (λ table. table.0) tables) ≡ true → found_rows number (map (replaced number rows) tables) ≡ rows
replaced_found number rows [] known = cc
replaced_found number rows (table ∷ tables) known = by_test (table.0 == number) refl (replaced_found number rows tables)
  where
    by_test : (b : Bool) → (table.0 == number) ≡ b → (list_any (nat_eq number) (map (λ table. table.0) tables) ≡ true → found_rows number (map (replaced number rows) tables) ≡ rows) →
        found_rows number ((if◌then◌else◌ {A = ℕ × List Kept} b (number, rows) table) ∷ map (replaced number rows) tables) ≡ rows
    by_test true e there =
        let itself : (number == number) ≡ true = grind (arith, nat_tests) in
        ap (λ b. option_map_or (λ (table : ℕ × List Kept). table.1) (if b then Some (number, rows) else find {X = ℕ × List Kept} (λ table. table.0 == number) (map (replaced number rows) tables)) []) itself
    by_test false e there =
        let other : nat_eq number table.0 ≡ false = grind (arith, nat_tests) in
        let known_there : list_any (nat_eq number) (map (λ table. table.0) tables) ≡ true = ap (λ b. b || list_any (nat_eq number) (map (λ table. table.0) tables)) (sym other) ∙ known in
        ap (λ b. option_map_or (λ (table : ℕ × List Kept). table.1) (if b then Some table else find {X = ℕ × List Kept} (λ table. table.0 == number) (map (replaced number rows) tables)) []) e ∙ there known_there

pub with_rows_found : (s : State) (number : ℕ) (rows : List Kept) → list_any (nat_eq number) (numbers_of s) ≡ true → rows_of (with_rows s number rows) number ≡ rows
with_rows_found s number rows known = replaced_found number rows s.tables known

-- ---- what is counted in all rows

-- a number below all of these tables' is none of theirs
absent : (number : ℕ) (rows : List Kept) (first : ℕ) (tables : List (ℕ × List Kept)) → NumbersAscend (first ∷ map (λ table. table.0) tables) → number ≤ first → (map (replaced number rows) tables ≡ tables) × (found_rows number tables ≡ [])
absent number rows first [] h le = (refl, refl)
absent number rows first (table ∷ tables) h le =
    let there = absent number rows table.0 tables h.1 (le_of_lt (lt_of_le_of_lt le h.0)) in
    let differ : (table.0 == number) ≡ false = let above = h.0 in grind (arith, nat_tests) in
    (by_test (table.0 == number) differ there.0, by_test_found (table.0 == number) differ there.1)
  where
    by_test : (b : Bool) → b ≡ false → map (replaced number rows) tables ≡ tables → (if◌then◌else◌ {A = ℕ × List Kept} b (number, rows) table) ∷ map (replaced number rows) tables ≡ table ∷ tables
    by_test true e there = cc
    by_test false e there = ap (λ ts. table ∷ ts) there

    by_test_found : (b : Bool) → b ≡ false → found_rows number tables ≡ [] → option_map_or (λ table. table.1) (if b then Some table else find {X = ℕ × List Kept} (λ table. table.0 == number) tables) [] ≡ []
    by_test_found true e there = cc
    by_test_found false e there = there

rest_ascends : (number : ℕ) (numbers : List ℕ) → NumbersAscend (number ∷ numbers) → NumbersAscend numbers
rest_ascends number [] h = tt
rest_ascends number (next ∷ numbers) h = h.1

-- What is counted in the rows of each table, over all tables.
module _ (count : List Kept → ℕ) (none : count [] ≡ 0) where
  abbrev total : List (ℕ × List Kept) → ℕ
  total tables = sum_by (λ table. count table.1) tables

  replaced_total : (number : ℕ) (rows : List Kept) (tables : List (ℕ × List Kept)) → NumbersAscend (map (λ table. table.0) tables) → total (map (replaced number rows) tables) + count (found_rows number tables) ≤ total tables + count rows
  replaced_total number rows [] h = omega (arith, none)
  replaced_total number rows (table ∷ tables) h =
      by_test (table.0 == number) refl (replaced_total number rows tables (rest_ascends table.0 (map (λ table. table.0) tables) h))
    where
      by_test : (b : Bool) → (table.0 == number) ≡ b → total (map (replaced number rows) tables) + count (found_rows number tables) ≤ total tables + count rows → total ((if b then (number, rows) else table) ∷ map (replaced number rows) tables) + count (option_map_or (λ table. table.1) (if b then Some table else find {X = ℕ × List Kept} (λ table. table.0 == number) tables) []) ≤ total (table ∷ tables) + count rows
      by_test true e there =
          let same : table.0 ≡ number = grind (arith, nat_tests) in
          let rest = absent number rows table.0 tables h (le_of_eq (sym same)) in
          let one = sum_by-cons (λ (table : ℕ × List Kept). count table.1) (number, rows) (map (replaced number rows) tables) in
          let two = sum_by-cons (λ (table : ℕ × List Kept). count table.1) table tables in
          let counts : total (map (replaced number rows) tables) ≡ total tables = ap total rest.0 in
          omega (arith, one, two, counts)
      by_test false e there =
          let one = sum_by-cons (λ (table : ℕ × List Kept). count table.1) table (map (replaced number rows) tables) in
          let two = sum_by-cons (λ (table : ℕ × List Kept). count table.1) table tables in
          omega (arith, one, two, there)

  -- In a table of the state it is just that.
  replaced_total_is : (number : ℕ) (rows : List Kept) (tables : List (ℕ × List Kept)) → NumbersAscend (map (λ table. table.0) tables) → list_any (nat_eq number) (map (λ table. table.0) tables) ≡ true → total (map (replaced number rows) tables) + count (found_rows number tables) ≡ total tables + count rows
  replaced_total_is number rows [] h known = cc
  replaced_total_is number rows (table ∷ tables) h known =
      by_test (table.0 == number) refl (replaced_total_is number rows tables (rest_ascends table.0 (map (λ table. table.0) tables) h))
    where
      by_test : (b : Bool) → (table.0 == number) ≡ b → (list_any (nat_eq number) (map (λ table. table.0) tables) ≡ true → total (map (replaced number rows) tables) + count (found_rows number tables) ≡ total tables + count rows) →
          total ((if b then (number, rows) else table) ∷ map (replaced number rows) tables) + count (option_map_or (λ table. table.1) (if b then Some table else find {X = ℕ × List Kept} (λ table. table.0 == number) tables) []) ≡ total (table ∷ tables) + count rows
      by_test true e there =
          let same : table.0 ≡ number = grind (arith, nat_tests) in
          let rest = absent number rows table.0 tables h (le_of_eq (sym same)) in
          let one = sum_by-cons (λ (table : ℕ × List Kept). count table.1) (number, rows) (map (replaced number rows) tables) in
          let two = sum_by-cons (λ (table : ℕ × List Kept). count table.1) table tables in
          let counts : total (map (replaced number rows) tables) ≡ total tables = ap total rest.0 in
          omega (arith, one, two, counts)
      by_test false e there =
          let other : nat_eq number table.0 ≡ false = grind (arith, nat_tests) in
          let known_there : list_any (nat_eq number) (map (λ table. table.0) tables) ≡ true = ap (λ b. b || list_any (nat_eq number) (map (λ table. table.0) tables)) (sym other) ∙ known in
          let one = sum_by-cons (λ (table : ℕ × List Kept). count table.1) table (map (replaced number rows) tables) in
          let two = sum_by-cons (λ (table : ℕ × List Kept). count table.1) table tables in
          omega (arith, one, two, there known_there)

  -- With what was counted in the rows that were there before, there is now at most what there was before with what is counted in the new ones.
  pub with_rows_total : (s : State) (number : ℕ) (rows : List Kept) → IsState s → total (with_rows s number rows).tables + count (rows_of s number) ≤ total s.tables + count rows
  with_rows_total s number rows stands = replaced_total number rows s.tables stands.numbers

pub with_rows_count : (s : State) (number : ℕ) (rows : List Kept) → IsState s → row_count (with_rows s number rows) + length (rows_of s number) ≤ row_count s + length rows
with_rows_count = with_rows_total length refl

pub with_rows_count_is : (s : State) (number : ℕ) (rows : List Kept) → IsState s → list_any (nat_eq number) (numbers_of s) ≡ true → row_count (with_rows s number rows) + length (rows_of s number) ≡ row_count s + length rows
with_rows_count_is s number rows stands known = replaced_total_is length refl number rows s.tables stands.numbers known

-- A table whose rows keep their keys: what a batch needs.
pub refilled_stands : (s : State) (number : ℕ) (rows : List Kept) → IsState s → Ascends rows → RowsStand s number rows → (may_lose s.kind s.left ≡ false → NoneLost rows) → length rows ≤ length (rows_of s number) → IsState (with_rows s number rows)
refilled_stands s number rows stands a r lost long =
    let count = with_rows_count s number rows stands in
    let few = stands.few in
    replaced_stands s number rows stands a r lost (omega (arith, count, few, long))
