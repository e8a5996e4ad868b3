-- The first rows that are still to be filled, and the first table that has any.
use Rattle.roll_core.proofs.Words.{Below, int_eq_equiv, arith, ◌≡◌, ◌∙◌, ℕ, zero, suc, ℤ, List, [], ◌∷◌, Bool, true, false, ◌||◌, if◌then◌else◌, length, map, nat_lt, take, filter, ap, refl, sym}
use Rattle.roll_core.proofs.Words.{subst, int_cmp, int_eq, Less, Each, list_any, is_eq, nat_tests, int_cmp_total, Kept, rows_at, is_missing, Ascends, keys_missing, slice_get-get_or, ◌<◌, Option, Some}
use Rattle.roll_core.proofs.Words.{None, find, drop, option_map, option_and_then, slice_get, slice_index_or, option_map_or, length-map, either_none, some_same, Calm, State, bad_batch}
use Rattle.roll_core.proofs.Words.{active_name, first_of, has_missing, inactive, may_fill, may_not_fill, phase_of, unfilled_tables, unfinished, Shared, rows_of, Form, Own, Paired, Left, Returned, Trimmed, FirstUnfilled}
use Rattle.roll_core.proofs.Words.{◌&&◌, is_paired, is_unfilled, number_at, OwnTable, FormSuits, Runs, meant, seen, StoredTable, rows_meant, table_meant}
use Rattle.roll_core.proofs.Fitting.{alone_shared}
use Rattle.roll_core.proofs.Tables.{all_at, each_place, got_mapped, rows_of-read, suits_meant}

-- ---- the rows of the first keys

-- The key is less than each of these rows'.
abbrev IsBelow : ℤ → List Kept → Type 0
IsBelow key rows = Each (λ row. int_cmp key row.key ≡ Less) rows

below_more : (key other : ℤ) (rows : List Kept) → int_cmp key other ≡ Less → IsBelow other rows → IsBelow key rows
below_more key other [] h b = tt
below_more key other (row ∷ rows) h b = (int_cmp_total.trans key other row.key h b.0, below_more key other rows h b.1)

rest_below : (row : Kept) (rows : List Kept) → Ascends (row ∷ rows) → IsBelow row.key rows × Ascends rows
rest_below row [] h = (tt, tt)
rest_below row (next ∷ rows) h =
    let there = rest_below next rows h.1 in
    ((h.0, below_more row.key next.key rows h.0 there.0), h.1)

none_taken : {X : Type 0} (xs : List X) → take zero xs ≡ []
none_taken [] = refl
none_taken (x ∷ xs) = refl

key_absent : (p : Kept → Bool) (key : ℤ) (n : ℕ) (rows : List Kept) → IsBelow key rows → list_any (int_eq key) (take n (map (λ row. row.key) (filter p rows))) ≡ false
key_absent p key zero rows b = ap (list_any (int_eq key)) (none_taken (map (λ row. row.key) (filter p rows)))
key_absent p key (suc n) [] b = refl
key_absent p key (suc n) (row ∷ rows) b =
    elim (p row) as (λ here. list_any (int_eq key) (take (suc n) (map {A = Kept} (λ row. row.key) (if here then row ∷ filter p rows else filter p rows))) ≡ false)
    [ true ↦ ap (λ c. is_eq c || list_any (int_eq key) (take n (map (λ row. row.key) (filter p rows)))) b.0 ∙ key_absent p key n rows b.1 | false ↦ key_absent p key (suc n) rows b.1 ]

-- rows behind a key aren't of this key
skipped : (q : Kept → Bool) (key : ℤ) (rows : List Kept) → IsBelow key rows → filter (λ row. int_eq row.key key || q row) rows ≡ filter q rows
skipped q key [] b = refl
skipped q key (row ∷ rows) b =
    let rest = filter (λ row. int_eq row.key key || q row) rows in
    ap (λ a. if a || q row then row ∷ rest else rest) (int_eq_equiv.symm row.key key ∙ ap is_eq b.0) ∙ ap (λ rest. if q row then row ∷ rest else rest) (skipped q key rows b.1)

none_left : (rows : List Kept) → filter (λ row. false) rows ≡ []
none_left [] = refl
none_left (row ∷ rows) = none_left rows

-- The rows of the first keys of those that pass are the first rows that do.
pub first_rows : (p : Kept → Bool) (n : ℕ) (rows : List Kept) → Ascends rows → rows_at (take n (map (λ row. row.key) (filter p rows))) rows ≡ take n (filter p rows)
first_rows p zero rows h = ap (λ keys. rows_at keys rows) (none_taken (map (λ row. row.key) (filter p rows))) ∙ none_left rows ∙ sym (none_taken (filter p rows))
first_rows p (suc n) [] h = refl
first_rows p (suc n) (row ∷ rows) h =
    let rest = rest_below row rows h in
    let keys = map (λ row. row.key) (filter p rows) in
    let left = filter (λ other. int_eq other.key row.key || list_any (int_eq other.key) (take n keys)) rows in
    let same = rows_at (take (suc n) keys) rows in
    elim (p row) as (λ b. rows_at (take (suc n) (map {A = Kept} (λ row. row.key) (if b then row ∷ filter p rows else filter p rows))) (row ∷ rows) ≡ take (suc n) (if b then row ∷ filter p rows else filter p rows)) [
      | true ↦ ap (λ b. if b || list_any (int_eq row.key) (take n keys) then row ∷ left else left) (int_eq_equiv.refl row.key)
          ∙ ap (λ left. row ∷ left) (skipped (λ other. list_any (int_eq other.key) (take n keys)) row.key rows rest.0 ∙ first_rows p n rows rest.1)
      | false ↦ ap (λ b. if b then row ∷ same else same) (key_absent p row.key (suc n) rows rest.0) ∙ first_rows p (suc n) rows rest.1
    ]

-- ---- whether there is any

pub any_left : (rows : List Kept) → nat_lt 0 (length (keys_missing rows)) ≡ list_any is_missing rows
any_left [] = refl
any_left (row ∷ rows) =
    elim (is_missing row) as (λ b. nat_lt 0 (length (map {A = Kept} (λ row. row.key) (if b then row ∷ filter is_missing rows else filter is_missing rows))) ≡ (b || list_any is_missing rows))
    [ true ↦ grind (arith, nat_tests) | false ↦ any_left rows ]

-- ---- what holds of rows holds of some of them

pub each_taken : (P : Kept → Type 0) (n : ℕ) (rows : List Kept) → Each P rows → Each P (take n rows)
each_taken P zero rows h = subst (Each P) (sym (none_taken rows)) tt
each_taken P (suc n) [] h = tt
each_taken P (suc n) (row ∷ rows) h = (h.0, each_taken P n rows h.1)

-- A migration is active, where a batch may be filled.
pub active : (s : State) (n : ℕ) → may_not_fill s n ≡ None → ¬ (s.mode ≡ Calm)
active s n e calm =
    let first = either_none (bad_batch n) (may_fill (phase_of s)) e in
    let second = either_none (unfinished s.kind) (inactive (active_name s.mode)) first.1 in
    let is : inactive (active_name Calm) ≡ None = ap (λ mode. inactive (active_name mode)) (sym calm) ∙ second.1 in
    cc

-- Then only a table that both versions have has rows to be filled.
tells_by : (s : State) (number : ℕ) (form : Form) (rows : List Kept) → FormSuits s number form → rows_of s number ≡ rows → ¬ (s.mode ≡ Calm) → has_missing s number ≡ (is_paired form && list_any is_missing rows)
tells_by s number (Own side) rows f e live = ap (λ (both : Option Shared). nat_lt 0 (length (option_map_or (λ pair. keys_missing (rows_of s number)) both []))) (alone_shared s number side f)
tells_by s number (Paired pair) rows f e live =
    ap (λ (both : Option Shared). nat_lt 0 (length (option_map_or (λ pair. keys_missing (rows_of s number)) both []))) f.shares
    ∙ ap (λ rows. nat_lt 0 (length (keys_missing rows))) e ∙ any_left rows
tells_by s number (Left pair) rows f e live = absurd (live f.calm)
tells_by s number (Trimmed pair) rows f e live = absurd (live f.calm)
tells_by s number (Returned pair) rows f e live = absurd (live f.calm)

abbrev Tells : State → StoredTable → Type 0
Tells s table = has_missing s table.number ≡ is_unfilled table

tells : Below → (frame : State) (tables : List StoredTable) → Runs frame tables → ¬ (frame.mode ≡ Calm) → Each (Tells (meant frame tables)) tables
tells law frame tables runs live = each_place (Tells (meant frame tables)) tables (λ at table e.
    let s = meant frame tables in
    let suits = suits_meant frame tables table.number table.form (all_at (λ table. FormSuits frame table.number table.form) tables at table runs.forms e) in
    let rows = rows_of-read law frame tables at table.number table runs.stands (record { here = e; numbered = refl }) in
    tells_by s table.number table.form (rows_meant table) suits rows live)

first_number : (s : State) (tables : List StoredTable) → Each (Tells s) tables → first_of (filter (has_missing s) (map (λ table. table.0) (map table_meant tables))) ≡ option_map (λ table. table.number) (find is_unfilled tables)
first_number s [] h = refl
first_number s (table ∷ tables) h =
    let rest = filter (has_missing s) (map (λ table. table.0) (map table_meant tables)) in
    ap (λ b. first_of (if b then table.number ∷ rest else rest)) h.0
    ∙ elim (is_unfilled table) as (λ b. first_of (if b then table.number ∷ rest else rest) ≡ option_map (λ table. table.number) (if b then Some table else find is_unfilled tables)) [ true ↦ refl | false ↦ first_number s tables h.1 ]

found_first : (tables : List StoredTable) (first : Option ℕ) → FirstUnfilled tables first → option_map (λ table. table.number) (find is_unfilled tables) ≡ option_and_then (number_at tables) first
found_first tables None h = ap (option_map (λ (table : StoredTable). table.number)) h
found_first tables (Some at) h = ap (option_map (λ (table : StoredTable). table.number)) h.1

-- The first table that has a row to be filled is at the place that was found.
pub first_table : Below → (frame : State) (tables : List StoredTable) (n : ℕ) (first : Option ℕ) → Runs frame tables → may_not_fill (meant frame tables) n ≡ None → FirstUnfilled tables first → first_of (unfilled_tables (meant frame tables)) ≡ option_and_then (number_at tables) first
first_table law frame tables n first runs may h =
    first_number (meant frame tables) tables (tells law frame tables runs (active (meant frame tables) n may)) ∙ found_first tables first h

-- ---- the loop

drop_found : (tables : List OwnTable) (at : ℕ) (table : OwnTable) → slice_get tables at ≡ Some table → is_unfilled (seen table) ≡ true → find is_unfilled (map seen (drop at tables)) ≡ Some (seen table)
drop_found [] at table e u = cc
drop_found (first ∷ tables) zero table e u =
    let same : seen first ≡ seen table = ap seen (some_same first table e) in
    ap (λ b. if b then Some (seen first) else find is_unfilled (map seen tables)) (ap is_unfilled same ∙ u) ∙ ap Some same
drop_found (first ∷ tables) (suc at) table e u = drop_found tables at table e u

pub found_here : (tables : List OwnTable) (at : ℕ) (d table : OwnTable) → at < length tables → table ≡ slice_index_or tables at d → find is_unfilled (map seen (drop at tables)) ≡ find is_unfilled (map seen tables) → is_unfilled (seen table) ≡ true → FirstUnfilled (map seen tables) (Some at)
found_here tables at d table h e left u =
    let got : slice_get tables at ≡ Some table = slice_get-get_or tables at d h ∙ ap Some (sym e) in
    let long = length-map tables seen in
    (omega (arith, h, long), sym left ∙ drop_found tables at table got u ∙ sym (got_mapped seen tables at table got))
