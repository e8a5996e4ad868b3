-- Stored tables, and the tables of the state that they mean.
use Rattle.roll_core.proofs.Words.{Below, ◌||◌, map-set, slice_get-get_or, slice_get-map, SameForms, FormSuits, Own, Paired, Left, Returned, Trimmed, Form, lost_columns_of, arith, Result, Ok, Err, OnErr, ◌+◌}
use Rattle.roll_core.proofs.Words.{◌≡◌, ◌≤◌, ◌<◌, ◌==◌, ◌∙◌, ℕ, zero, suc, List, [], ◌∷◌, Bool, true, false, Some, find, if◌then◌else◌, length, map, nat_eq, ap, refl, sym, subst, option_map}
use Rattle.roll_core.proofs.Words.{option_and_then, le_of_eq, slice_get, slice_index_or, slice_set, sum_by, AllByRecursion, list_all, list_any, option_map_or, nat_tests, length-map, sum_by-cons}
use Rattle.roll_core.proofs.Words.{Change, both, some_same, Table, table_numbered, Kept, Site, number_of, Calm, Both, State, numbers_of, IsState, ModeStands, NumbersAscend, newer_schema, rows_of}
use Rattle.roll_core.proofs.Words.{table_on, with_rows, New, Old, Side, OwnTable, IsSite, Runs, meant, numbers_in, stored_count, changed, with_changes, own_count, seen, StoredTable, kept, rows_meant}
use Rattle.roll_core.proofs.Words.{◌++◌, None, filter, is_some, other, table_meant}
use Rattle.roll_core.proofs.Words.finite

-- ---- elements

pub got_mapped : {X Y : Type 0} (f : X → Y) (xs : List X) (at : ℕ) (x : X) → slice_get xs at ≡ Some x → slice_get (map f xs) at ≡ Some (f x)
got_mapped f xs at x e = slice_get-map f xs at ∙ ap (option_map f) e

pub all_at : {X : Type 0} (P : X → Type 0) (xs : List X) (at : ℕ) (x : X) → AllByRecursion P xs → slice_get xs at ≡ Some x → P x
all_at P [] at x h e = cc
all_at {X} P (first ∷ xs) zero x h e = let same : first ≡ x = cc in subst P same h.0
all_at P (first ∷ xs) (suc at) x h e = all_at P xs at x h.1 e

pub all_set : {X : Type 0} (P : X → Type 0) (xs : List X) (at : ℕ) (x : X) → AllByRecursion P xs → P x → AllByRecursion P (slice_set xs at x)
all_set P [] at x h p = tt
all_set P (first ∷ xs) zero x h p = (p, h.1)
all_set P (first ∷ xs) (suc at) x h p = (h.0, all_set P xs at x h.1 p)

-- What holds of the one at each place holds of each.
pub each_place : {X : Type 0} (P : X → Type 0) (xs : List X) → ((at : ℕ) (x : X) → slice_get xs at ≡ Some x → P x) → AllByRecursion P xs
each_place P [] h = tt
each_place P (x ∷ xs) h = (h 0 x refl, each_place P xs (λ at y e. h (suc at) y e))

pub each_of : {X : Type 0} {P Q : X → Type 0} → ((x : X) → P x → Q x) → (xs : List X) → AllByRecursion P xs → AllByRecursion Q xs
each_of h [] p = tt
each_of h (x ∷ xs) p = (h x p.0, each_of h xs p.1)

pub each_all : {X : Type 0} {P : X → Type 0} → ((x : X) → P x) → (xs : List X) → AllByRecursion P xs
each_all h [] = tt
each_all h (x ∷ xs) = (h x, each_all h xs)

pub each_mapped : {X Y : Type 0} {P : X → Type 0} (f : X → Y) (Q : Y → Type 0) → ((x : X) → P x → Q (f x)) → (xs : List X) → AllByRecursion P xs → AllByRecursion Q (map f xs)
each_mapped f Q h [] p = tt
each_mapped f Q h (x ∷ xs) p = (h x p.0, each_mapped f Q h xs p.1)

pub each_joined : {X : Type 0} (P : X → Type 0) (xs ys : List X) → AllByRecursion P xs → AllByRecursion P ys → AllByRecursion P (xs ++ ys)
each_joined P [] ys p q = q
each_joined P (x ∷ xs) ys p q = (p.0, each_joined P xs ys p.1 q)

-- What holds of each holds of those that pass a test, where they do.
pub each_passing : {X : Type 0} {P Q : X → Type 0} (test : X → Bool) → ((x : X) → P x → test x ≡ true → Q x) → (xs : List X) → AllByRecursion P xs → AllByRecursion Q (filter test xs)
each_passing test h [] p = tt
each_passing {Q} test h (x ∷ xs) p =
    let rest = each_passing test h xs p.1 in
    elim (test x) as (λ b. test x ≡ b → AllByRecursion Q (if b then x ∷ filter test xs else filter test xs)) [ true ↦ λ e. (h x p.0 e, rest) | false ↦ λ e. rest ] refl

-- The table at a place that was read.
pub record IsRead (tables : List StoredTable) (at number : ℕ) (table : StoredTable) : Type 0 where
  pub here : slice_get tables at ≡ Some table
  pub numbered : table.number ≡ number

pub read_at : (tables : List OwnTable) (at number : ℕ) (d table : OwnTable) → at < length tables → option_map (λ table. table.number) (slice_get tables at) ≡ Some number → table ≡ slice_index_or tables at d → IsRead (map seen tables) at number (seen table)
read_at tables at number d table h n e =
    let got : slice_get tables at ≡ Some table = slice_get-get_or tables at d h ∙ ap Some (sym e) in
    record { here = got_mapped seen tables at table got; numbered = some_same table.number number (ap (option_map (λ (t : OwnTable). t.number)) (sym got) ∙ n) }

-- ---- numbers

pub numbers_of-meant : (frame : State) (tables : List StoredTable) → numbers_of (meant frame tables) ≡ numbers_in tables
numbers_of-meant frame [] = refl
numbers_of-meant frame (table ∷ tables) = ap (λ rest. table.number ∷ rest) (numbers_of-meant frame tables)

pub ascend : (frame : State) (tables : List StoredTable) → IsState (meant frame tables) → NumbersAscend (numbers_in tables)
ascend frame tables stands = subst NumbersAscend (numbers_of-meant frame tables) stands.numbers

pub rest_ascends : (number : ℕ) (numbers : List ℕ) → NumbersAscend (number ∷ numbers) → NumbersAscend numbers
rest_ascends number [] h = tt
rest_ascends number (next ∷ numbers) h = h.1

later_ascend : (first next : ℕ) (numbers : List ℕ) → first < next → NumbersAscend (next ∷ numbers) → NumbersAscend (first ∷ numbers)
later_ascend first next [] less a = tt
later_ascend first next (third ∷ numbers) less a = let more = a.0 in (omega (arith, less, more), a.1)

-- Those of the tables that pass a test ascend too.
pass_behind : (test : StoredTable → Bool) (first : ℕ) (tables : List StoredTable) → NumbersAscend (first ∷ numbers_in tables) → NumbersAscend (first ∷ numbers_in (filter test tables))
pass_behind test first [] a = tt
pass_behind test first (table ∷ tables) a =
    let rest = filter test tables in
    elim (test table) as (λ b. NumbersAscend (first ∷ numbers_in (if b then table ∷ rest else rest)))
    [ true ↦ (a.0, pass_behind test table.number tables a.1) | false ↦ pass_behind test first tables (later_ascend first table.number (numbers_in tables) a.0 a.1) ]

pub passing_ascend : (test : StoredTable → Bool) (tables : List StoredTable) → NumbersAscend (numbers_in tables) → NumbersAscend (numbers_in (filter test tables))
passing_ascend test [] a = tt
passing_ascend test (table ∷ tables) a =
    let rest = filter test tables in
    elim (test table) as (λ b. NumbersAscend (numbers_in (if b then table ∷ rest else rest)))
    [ true ↦ pass_behind test table.number tables a | false ↦ passing_ascend test tables (rest_ascends table.number (numbers_in tables) a) ]

-- the tables behind have greater numbers
behind : (first : ℕ) (tables : List StoredTable) (at : ℕ) (table : StoredTable) → NumbersAscend (first ∷ numbers_in tables) → slice_get tables at ≡ Some table → first < table.number
behind first [] at table a e = cc
behind first (next ∷ tables) zero table a e = let same : next ≡ table = cc in subst (λ (t : StoredTable). first < t.number) same a.0
behind first (next ∷ tables) (suc at) table a e = let more = behind next.number tables at table a.1 e in let less = a.0 in omega (arith, more, less)

-- The rows of the table at a place are those of its number.
pub rows_of-read : Below → (frame : State) (tables : List StoredTable) (at number : ℕ) (table : StoredTable) → IsState (meant frame tables) → IsRead tables at number table → rows_of (meant frame tables) number ≡ rows_meant table
rows_of-read law frame tables at number table stands r =
    let s = meant frame tables in
    ap (rows_of s) (sym r.numbered) ∙ all_at (λ (t : ℕ × List Kept). rows_of s t.0 ≡ t.1) s.tables at (table_meant table) (law.own_rows s stands) (got_mapped table_meant tables at table r.here)

-- ---- the table of a site is stored

among : (numbers : List ℕ) (number : ℕ) (tables : List Table) (table : Table) → list_all (λ table. list_any (nat_eq (number_of table)) numbers) tables ≡ true → find {X = Table} (λ table. table.1 == number) tables ≡ Some table → list_any (nat_eq number) numbers ≡ true
among numbers number [] table h e = cc
among numbers number (first ∷ tables) table h e =
    let parts = both (list_any (nat_eq (number_of first)) numbers) (list_all (λ (table : Table). list_any (nat_eq (number_of table)) numbers) tables) h in
    elim (first.1 == number) as (λ b. (first.1 == number) ≡ b → (if b then Some first else find {X = Table} (λ table. table.1 == number) tables) ≡ Some table → list_any (nat_eq number) numbers ≡ true) [
      | true ↦ λ k e. let same : first.1 ≡ number = grind (arith, nat_tests) in subst (λ n. list_any (nat_eq n) numbers ≡ true) same parts.0
      | false ↦ λ k e. among numbers number tables table parts.1 e
    ] refl e

pub side_among : (s : State) → IsState s → (side : Side) (number : ℕ) (table : Table) → table_on s side number ≡ Some table → list_any (nat_eq number) (numbers_of s) ≡ true
side_among s stands Old number table e = among (numbers_of s) number s.schema.tables table stands.version.rows e
side_among s stands New number table e =
    elim s.mode as (λ mode. ModeStands s mode → option_and_then (λ schema. table_numbered schema number) (newer_schema mode) ≡ Some table → list_any (nat_eq number) (numbers_of s) ≡ true)
    [ Calm ↦ λ h e. cc | Both name schema fates ↦ λ h e. among (numbers_of s) number schema.tables table h.version.rows e ] stands.mode e

pub is_among : (s : State) → IsState s → (side : Side) (number : ℕ) → is_some (table_on s side number) ≡ true → list_any (nat_eq number) (numbers_of s) ≡ true
is_among s stands side number has =
    elim (table_on s side number) as (λ found. table_on s side number ≡ found → is_some found ≡ true → list_any (nat_eq number) (numbers_of s) ≡ true)
    [ None ↦ λ e has. cc | Some table ↦ λ e has. side_among s stands side number table e ] refl has

pub on_meant : (frame : State) (tables : List StoredTable) (side : Side) (number : ℕ) → table_on (meant frame tables) side number ≡ table_on frame side number
on_meant frame tables Old number = refl
on_meant frame tables New number = refl

pub site_there : (frame : State) (tables : List StoredTable) (site : Site) → Runs frame tables → IsSite frame site → list_any (nat_eq (number_of site.here)) (numbers_in tables) ≡ true
site_there frame tables site runs there =
    let found = there.0 in
    let number = number_of found.table in
    let on = on_meant frame tables found.side number ∙ there.2.on_side in
    let is = subst (λ ns. list_any (nat_eq number) ns ≡ true) (numbers_of-meant frame tables) (side_among (meant frame tables) runs.stands found.side number found.table on) in
    subst (λ (s : Site). list_any (nat_eq (number_of s.here)) (numbers_in tables) ≡ true) (sym there.1) is

pub own_number : (tables : List StoredTable) (at : ℕ) (table : StoredTable) → slice_get tables at ≡ Some table → list_any (nat_eq table.number) (numbers_in tables) ≡ true
own_number [] at table e = cc
own_number (first ∷ tables) zero table e = let same : first ≡ table = some_same first table e in let is : first.number ≡ table.number = ap (λ (t : StoredTable). t.number) same in grind (arith, nat_tests)
own_number (first ∷ tables) (suc at) table e = later (nat_eq table.number first.number) (own_number tables at table e)
  where
    later : (b : Bool) → list_any (nat_eq table.number) (numbers_in tables) ≡ true → (b || list_any (nat_eq table.number) (numbers_in tables)) ≡ true
    later true h = refl
    later false h = h

-- A number is among those of the tables that pass a test, where its table does.
pub passing_among : (test : StoredTable → Bool) (number : ℕ) → ((table : StoredTable) → table.number ≡ number → test table ≡ true) → (tables : List StoredTable)
    → list_any (nat_eq number) (numbers_in tables) ≡ true → list_any (nat_eq number) (numbers_in (filter test tables)) ≡ true
passing_among test number passes [] among = among
passing_among test number passes (table ∷ tables) among =
    let rest = filter test tables in
    let more = passing_among test number passes tables in
    let whole = λ (b : Bool). list_any (nat_eq number) (numbers_in (if b then table ∷ rest else rest)) in
    elim (nat_eq number table.number) as (λ b. nat_eq number table.number ≡ b → (b || list_any (nat_eq number) (numbers_in tables)) ≡ true → whole (test table) ≡ true) [
      | true ↦ λ e h. let same : table.number ≡ number = grind (arith, nat_tests) in ap whole (passes table same) ∙ ap (λ b. b || list_any (nat_eq number) (numbers_in rest)) e
      | false ↦ λ e h. elim (test table) as (λ b. whole b ≡ true) [ true ↦ ap (λ b. b || list_any (nat_eq number) (numbers_in rest)) e ∙ more h | false ↦ more h ]
    ] refl among

pub none_lost : (frame : State) (number : ℕ) → frame.lost_columns ≡ [] → lost_columns_of frame number ≡ 0
none_lost frame number e = ap (λ (lost : List (ℕ × ℕ)). option_map_or (λ lost. lost.1) (find (λ lost. lost.0 == number) lost) 0) e

-- ---- another table in its place

pub on_err : {X E : Type 0} (r : Result X E) (P : Type 0) → P → OnErr r P
on_err (Ok x) P p = tt
on_err (Err e) P p = p

set_got : {X : Type 0} (xs : List X) (at : ℕ) (x : X) → slice_get xs at ≡ Some x → slice_set xs at x ≡ xs
set_got [] at x e = cc
set_got (first ∷ xs) zero x e = ap (λ y. y ∷ xs) (sym (some_same first x e))
set_got (first ∷ xs) (suc at) x e = ap (λ ys. first ∷ ys) (set_got xs at x e)

pub set_same : (tables : List OwnTable) (at : ℕ) (d table new : OwnTable) → at < length tables → table ≡ slice_index_or tables at d → seen new ≡ seen table → map seen (slice_set tables at new) ≡ map seen tables
set_same tables at d table new h e is =
    let got = got_mapped seen tables at table (slice_get-get_or tables at d h ∙ ap Some (sym e)) in
    map-set seen tables at new ∙ ap (slice_set (map seen tables) at) is ∙ set_got (map seen tables) at (seen table) got

pub set_changed : (tables : List OwnTable) (at : ℕ) (d table new : OwnTable) (changes : List Change) → at < length tables → table ≡ slice_index_or tables at d → seen new ≡ changed changes table → Some (map seen (slice_set tables at new)) ≡ with_changes at changes tables
set_changed tables at d table new changes h e is =
    let got : slice_get tables at ≡ Some table = slice_get-get_or tables at d h ∙ ap Some (sym e) in
    ap Some (map-set seen tables at new ∙ ap (slice_set (map seen tables) at) is) ∙ ap (option_map (λ table. slice_set (map seen tables) at (changed changes table))) (sym got)

pub same_forms : (tables : List StoredTable) (at : ℕ) (table new : StoredTable) → slice_get tables at ≡ Some table → new.number ≡ table.number → new.form ≡ table.form → SameForms tables (slice_set tables at new)
same_forms tables at table new e n f =
    let form : StoredTable → ℕ × Form = λ t. (t.number, t.form) in
    let here : form new ≡ form table = rw (n, f) refl in
    map-set form tables at new ∙ ap (slice_set (map form tables) at) here ∙ set_got (map form tables) at (form table) (got_mapped form tables at table e)

-- a table whose number is another one is as it was
abbrev replaced : ℕ → List Kept → ℕ × List Kept → ℕ × List Kept
replaced number rows table = if table.0 == number then (number, rows) else table

other_table : (number : ℕ) (rows : List Kept) (table : StoredTable) → (table.number == number) ≡ false → replaced number rows (table_meant table) ≡ table_meant table
other_table number rows table e = ap (λ b. if◌then◌else◌ {A = ℕ × List Kept} b (number, rows) (table_meant table)) e

-- tables behind that of a number have others
absent : (number : ℕ) (rows : List Kept) (first : ℕ) (tables : List StoredTable) → NumbersAscend (first ∷ numbers_in tables) → number ≤ first → map (replaced number rows) (map table_meant tables) ≡ map table_meant tables
absent number rows first [] h le = refl
absent number rows first (table ∷ tables) h le =
    let above = h.0 in
    let differ : (table.number == number) ≡ false = grind (arith, nat_tests) in
    let there = absent number rows table.number tables h.1 (omega (arith, above, le)) in
    ap (λ t. t ∷ map (replaced number rows) (map table_meant tables)) (other_table number rows table differ) ∙ ap (λ ts. table_meant table ∷ ts) there

with_set : (number : ℕ) (rows : List Kept) (tables : List StoredTable) (at : ℕ) (table new : StoredTable) → NumbersAscend (numbers_in tables) → slice_get tables at ≡ Some table → table.number ≡ number → table_meant new ≡ (number, rows) → map (replaced number rows) (map table_meant tables) ≡ map table_meant (slice_set tables at new)
with_set number rows [] at table new a e n is = cc
with_set number rows (first ∷ tables) zero table new a e n is =
    let same : first ≡ table = cc in
    let numbered : first.number ≡ number = ap (λ (t : StoredTable). t.number) same ∙ n in
    let test : (first.number == number) ≡ true = grind (arith, nat_tests) in
    let here : replaced number rows (table_meant first) ≡ (number, rows) = ap (λ b. if◌then◌else◌ {A = ℕ × List Kept} b (number, rows) (table_meant first)) test in
    ap (λ t. t ∷ map (replaced number rows) (map table_meant tables)) (here ∙ sym is) ∙ ap (λ ts. table_meant new ∷ ts) (absent number rows first.number tables a (le_of_eq (sym numbered)))
with_set number rows (first ∷ tables) (suc at) table new a e n is =
    let less = behind first.number tables at table a e in
    let differ : (first.number == number) ≡ false = grind (arith, nat_tests) in
    ap (λ t. t ∷ map (replaced number rows) (map table_meant tables)) (other_table number rows first differ) ∙ ap (λ ts. table_meant first ∷ ts) (with_set number rows tables at table new (rest_ascends first.number (numbers_in tables) a) e n is)

-- The state with other rows in a table is that of the tables with another one in its place.
pub with_rows-set : (frame : State) (tables : List StoredTable) (at number : ℕ) (rows : List Kept) (table new : StoredTable) → IsState (meant frame tables) → IsRead tables at number table → table_meant new ≡ (number, rows) → with_rows (meant frame tables) number rows ≡ meant frame (slice_set tables at new)
with_rows-set frame tables at number rows table new stands r is =
    ap (λ (ts : List (ℕ × List Kept)). record frame { tables = ts }) (with_set number rows tables at table new (ascend frame tables stands) r.here r.numbered is)

pub suits_meant : (frame : State) (tables : List StoredTable) (number : ℕ) (form : Form) → FormSuits frame number form → FormSuits (meant frame tables) number form
suits_meant frame tables number (Own side) h = on_meant frame tables (other side) number ∙ h
suits_meant frame tables number (Paired pair) h = record { both = h.both; shares = h.shares; over = h.over; is_pair = h.is_pair }
suits_meant frame tables number (Left pair) h = record { calm = h.calm; is_pair = h.is_pair; shape = h.shape }
suits_meant frame tables number (Trimmed pair) h = record { calm = h.calm; is_pair = h.is_pair; shape = h.shape }
suits_meant frame tables number (Returned pair) h = record { calm = h.calm; is_pair = h.is_pair; shape = h.shape }

-- ---- the number of rows

pub count_meant : (tables : List StoredTable) → sum_by (λ table. length table.1) (map table_meant tables) ≡ stored_count tables
count_meant [] = refl
count_meant (table ∷ tables) =
    let one = sum_by-cons (λ (table : ℕ × List Kept). length table.1) (table_meant table) (map table_meant tables) in
    let other = sum_by-cons (λ (table : StoredTable). length table.rows) table tables in
    let same = length-map table.rows (kept table.form) in
    let there = count_meant tables in
    omega (arith, one, other, same, there)

pub count_seen : (tables : List OwnTable) → stored_count (map seen tables) ≡ own_count tables
count_seen [] = refl
count_seen (table ∷ tables) =
    let one = sum_by-cons (λ (table : StoredTable). length table.rows) (seen table) (map seen tables) in
    let other = sum_by-cons (λ (table : OwnTable). finite.len table.rows.rows) table tables in
    let same = finite.len-entries table.rows.rows in
    let there = count_seen tables in
    omega (arith, one, other, same, there)

pub count_set : (tables : List StoredTable) (at : ℕ) (table new : StoredTable) → slice_get tables at ≡ Some table → stored_count (slice_set tables at new) + length table.rows ≡ stored_count tables + length new.rows
count_set [] at table new e = cc
count_set (first ∷ tables) zero table new e =
    let same = ap (λ (t : StoredTable). length t.rows) (some_same first table e) in
    let one = sum_by-cons (λ (table : StoredTable). length table.rows) first tables in
    let other = sum_by-cons (λ (table : StoredTable). length table.rows) new tables in
    omega (arith, same, one, other)
count_set (first ∷ tables) (suc at) table new e =
    let there = count_set tables at table new e in
    let one = sum_by-cons (λ (table : StoredTable). length table.rows) first tables in
    let other = sum_by-cons (λ (table : StoredTable). length table.rows) first (slice_set tables at new) in
    omega (arith, there, one, other)
