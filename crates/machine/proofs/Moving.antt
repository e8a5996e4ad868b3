-- Tables and rows that stand, when they are carried into another state.
use Rattle.std.proofs.Common.{◌≡◌, ◌∙◌, ℕ, ◌<◌, ◌≤◌, List, [], ◌∷◌, ◌++◌, Bool, true, false, ◌||◌, cond, Some, length, map, ap, refl, subst, arith}
use Rattle.std.specs.Prelude.{◌==◌, find, nat_eq, sum_by}
use Rattle.std.specs.List.{AllByRecursion as Each, filter, list_all, list_any}
use Rattle.std.proofs.lemmas.Bool.Decides.{nat_tests}
use Rattle.std.proofs.lemmas.List.Sums.{sum_by-cons}
use Rattle.sql_base.specs.Laws.{all_true, both}
use Rattle.row_rules.specs.declared.kinds.Kept.{Kept}
use Rattle.machine.specs.declared.states.State.{State}
use Rattle.machine.specs.Standing.{Ascends, NumbersAscend, RowStands, RowsStand, TablesStand}

-- the number of a table of a state and its rows
abbrev pub Rows : Type 0
Rows = ℕ × List Kept

abbrev pub numbers : List Rows → List ℕ
numbers tables = map (λ table. table.0) tables

-- ---- each element

pub each : {X : Type 0} (P : X → Type 0) → ((x : X) → P x) → (xs : List X) → Each P xs
each P h [] = tt
each P h (x ∷ xs) = (h x, each P h xs)

pub each_so : {X : Type 0} (P Q : X → Type 0) → ((x : X) → P x → Q x) → (xs : List X) → Each P xs → Each Q xs
each_so P Q h [] p = tt
each_so P Q h (x ∷ xs) p = (h x p.0, each_so P Q h xs p.1)

pub each_both : {X : Type 0} (P Q R : X → Type 0) → ((x : X) → P x → Q x → R x) → (xs : List X) → Each P xs → Each Q xs → Each R xs
each_both P Q R h [] p q = tt
each_both P Q R h (x ∷ xs) p q = (h x p.0 q.0, each_both P Q R h xs p.1 q.1)

pub filter_all : {X : Type 0} (p : X → Bool) (xs : List X) → Each (λ x. p x ≡ true) xs → filter p xs ≡ xs
filter_all p [] h = refl
filter_all p (x ∷ xs) h = ap (λ b. cond b (x ∷ filter p xs) (filter p xs)) h.0 ∙ ap (λ ys. x ∷ ys) (filter_all p xs h.1)

pub map_each : {X Y : Type 0} (f : X → Y) (P : Y → Type 0) (xs : List X) → Each (λ x. P (f x)) xs → Each P (map f xs)
map_each f P [] h = tt
map_each f P (x ∷ xs) h = (h.0, map_each f P xs h.1)

pub filter_each : {X : Type 0} (p : X → Bool) (P : X → Type 0) (xs : List X) → Each P xs → Each P (filter p xs)
filter_each p P [] h = tt
filter_each p P (x ∷ xs) h = by_test (filter_each p P xs h.1) (p x)
  where
    by_test : Each P (filter p xs) → (b : Bool) → Each P (cond b (x ∷ filter p xs) (filter p xs))
    by_test there true = (h.0, there)
    by_test there false = there

pub each_append : {X : Type 0} (P : X → Type 0) (xs ys : List X) → Each P xs → Each P ys → Each P (xs ++ ys)
each_append P [] ys p q = q
each_append P (x ∷ xs) ys p q = (p.0, each_append P xs ys p.1 q)

-- What passes a test is so.
pub filter_so : {X : Type 0} (p : X → Bool) (xs : List X) → Each (λ x. p x ≡ true) (filter p xs)
filter_so p [] = tt
filter_so p (x ∷ xs) = by_test (filter_so p xs) (p x) refl
  where
    by_test : Each (λ x. p x ≡ true) (filter p xs) → (b : Bool) → p x ≡ b →
        Each (λ x. p x ≡ true) (cond b (x ∷ filter p xs) (filter p xs))
    by_test there true is = (is, there)
    by_test there false is = there

pub list_each : {X : Type 0} (p : X → Bool) (xs : List X) → list_all p xs ≡ true → Each (λ x. p x ≡ true) xs
list_each p [] h = tt
list_each p (x ∷ xs) h = let parts = both (p x) (list_all p xs) h in (parts.0, list_each p xs parts.1)

pub each_list : {X : Type 0} (p : X → Bool) (xs : List X) → Each (λ x. p x ≡ true) xs → list_all p xs ≡ true
each_list p [] h = refl
each_list p (x ∷ xs) h = all_true (p x) (list_all p xs) h.0 (each_list p xs h.1)

-- ---- tables by their numbers

pub either_way : (a b : Bool) → b ≡ true → (a || b) ≡ true
either_way true b h = refl
either_way false b h = h

-- The number of each of these tables is among their numbers.
pub each_among : (tables : List Rows) → Each (λ table. list_any (nat_eq table.0) (numbers tables) ≡ true) tables
each_among [] = tt
each_among (t ∷ ts) =
    let rest = each_so (λ u. list_any (nat_eq u.0) (numbers ts) ≡ true) (λ u. list_any (nat_eq u.0) (numbers (t ∷ ts)) ≡ true) (λ u. either_way (nat_eq u.0 t.0) (list_any (nat_eq u.0) (numbers ts))) ts (each_among ts) in
    (grind (arith, nat_tests), rest)

below_each : (n : ℕ) (ts : List Rows) → NumbersAscend (n ∷ numbers ts) → Each (λ u. n < u.0) ts
below_each n [] h = tt
below_each n (t ∷ ts) h = (h.0, each_so (λ u. t.0 < u.0) (λ u. n < u.0) (λ u k. omega (arith, h.0)) ts (below_each t.0 ts h.1))

later : (n : ℕ) (ts : List Rows) → NumbersAscend (n ∷ numbers ts) → NumbersAscend (numbers ts)
later n [] h = tt
later n (t ∷ ts) h = h.1

-- It is found by its number.
abbrev pub IsFound : List Rows → Rows → Type 0
IsFound tables table = find (λ other. other.0 == table.0) tables ≡ Some table

pub each_found : (ts : List Rows) → NumbersAscend (numbers ts) → Each (IsFound ts) ts
each_found [] h = tt
each_found (t ∷ ts) h =
    let itself : (t.0 == t.0) ≡ true = grind (arith, nat_tests) in
    (ap (λ b. cond b (Some t) (find (λ v. v.0 == t.0) ts)) itself, each_both (λ u. t.0 < u.0) (IsFound ts) (IsFound (t ∷ ts)) behind ts (below_each t.0 ts h) (each_found ts (later t.0 ts h)))
  where
    behind : (u : Rows) → t.0 < u.0 → IsFound ts u → IsFound (t ∷ ts) u
    behind u below k =
        let apart : (t.0 == u.0) ≡ false = grind (arith, nat_tests) in
        ap (λ b. cond b (Some t) (find (λ v. v.0 == u.0) ts)) apart ∙ k

-- Of the number of each table it is so, where it is of these numbers.
pub each_number : (p : ℕ → Bool) (tables : List Rows) → list_all p (numbers tables) ≡ true →
    Each (λ table. p table.0 ≡ true) tables
each_number p [] h = tt
each_number p (t ∷ ts) h = let parts = both (p t.0) (list_all p (numbers ts)) h in (parts.0, each_number p ts parts.1)

pub number_each : (p : ℕ → Bool) (tables : List Rows) → Each (λ table. p table.0 ≡ true) tables →
    list_all p (numbers tables) ≡ true
number_each p [] h = refl
number_each p (t ∷ ts) h = all_true (p t.0) (list_all p (numbers ts)) h.0 (number_each p ts h.1)

-- ---- some of the tables

ascends_before : (n : ℕ) (ts : List Rows) → Each (λ u. n < u.0) ts → NumbersAscend (numbers ts) →
    NumbersAscend (n ∷ numbers ts)
ascends_before n [] h a = tt
ascends_before n (t ∷ ts) h a = (h.0, a)

pub numbers_filtered : (p : Rows → Bool) (ts : List Rows) → NumbersAscend (numbers ts) →
    NumbersAscend (numbers (filter p ts))
numbers_filtered p [] h = tt
numbers_filtered p (t ∷ ts) h = by_test (numbers_filtered p ts (later t.0 ts h)) (p t)
  where
    by_test : NumbersAscend (numbers (filter p ts)) → (b : Bool) →
        NumbersAscend (numbers (cond b (t ∷ filter p ts) (filter p ts)))
    by_test there true = ascends_before t.0 (filter p ts) (filter_each p (λ u. t.0 < u.0) ts (below_each t.0 ts h)) there
    by_test there false = there

-- A number that is among them stays so, where its table does.
pub among_filtered : (p : ℕ → Bool) (number : ℕ) → p number ≡ true → (ts : List Rows) →
    list_any (nat_eq number) (numbers ts) ≡ true →
    list_any (nat_eq number) (numbers (filter (λ t. p t.0) ts)) ≡ true
among_filtered p number is [] h = h
among_filtered p number is (t ∷ ts) h = by_tests (among_filtered p number is ts) (nat_eq number t.0) refl (p t.0) refl h
  where
    by_tests : (list_any (nat_eq number) (numbers ts) ≡ true → list_any (nat_eq number) (numbers (filter (λ t. p t.0) ts)) ≡ true) →
        (same : Bool) → nat_eq number t.0 ≡ same → (stays : Bool) → p t.0 ≡ stays →
        (same || list_any (nat_eq number) (numbers ts)) ≡ true →
        list_any (nat_eq number) (numbers (cond stays (t ∷ filter (λ t. p t.0) ts) (filter (λ t. p t.0) ts))) ≡ true
    by_tests there true e true k h = ap (λ b. b || list_any (nat_eq number) (numbers (filter (λ t. p t.0) ts))) e
    by_tests there true e false k h =
        let same : number ≡ t.0 = grind (arith, nat_tests) in
        let so : p t.0 ≡ true = subst (λ n. p n ≡ true) same is in
        cc
    by_tests there false e true k h = either_way (nat_eq number t.0) (list_any (nat_eq number) (numbers (filter (λ t. p t.0) ts))) (there h)
    by_tests there false e false k h = there h

pub counts_filtered : (p : Rows → Bool) (ts : List Rows) →
    sum_by (λ table. length table.1) (filter p ts) ≤ sum_by (λ table. length table.1) ts
counts_filtered p [] = omega arith
counts_filtered p (t ∷ ts) = by_test (counts_filtered p ts) (p t)
  where
    by_test : sum_by (λ table. length table.1) (filter p ts) ≤ sum_by (λ table. length table.1) ts →
        (b : Bool) →
        sum_by (λ table. length table.1) (cond b (t ∷ filter p ts) (filter p ts)) ≤ sum_by (λ table. length table.1) (t ∷ ts)
    by_test there true = omega (arith, there, sum_by-cons {X = Rows} (λ table. length table.1) t (filter p ts), sum_by-cons {X = Rows} (λ table. length table.1) t ts)
    by_test there false = omega (arith, there, sum_by-cons {X = Rows} (λ table. length table.1) t ts)

pub tables_filtered : (s : State) (p : Rows → Bool) (ts : List Rows) → TablesStand s ts →
    TablesStand s (filter p ts)
tables_filtered s p [] h = tt
tables_filtered s p (t ∷ ts) h = by_test (tables_filtered s p ts h.2) (p t)
  where
    by_test : TablesStand s (filter p ts) → (b : Bool) →
        TablesStand s (cond b (t ∷ filter p ts) (filter p ts))
    by_test there true = (h.0, h.1, there)
    by_test there false = there

pub tables_append : (s : State) (ts us : List Rows) → TablesStand s ts → TablesStand s us →
    TablesStand s (ts ++ us)
tables_append s [] us h k = k
tables_append s (t ∷ ts) us h k = (h.0, h.1, tables_append s ts us h.2 k)

-- ---- tables with other rows under the same numbers

pub numbers_kept : (g : Rows → Rows) → ((table : Rows) → (g table).0 ≡ table.0) → (tables : List Rows) → numbers (map g tables) ≡ numbers tables
numbers_kept g h [] = refl
numbers_kept g h (t ∷ ts) = rw (h t, numbers_kept g h ts)

pub counts_kept : (g : Rows → Rows) → ((table : Rows) → length (g table).1 ≡ length table.1) → (tables : List Rows) → sum_by (λ table. length table.1) (map g tables) ≡ sum_by (λ table. length table.1) tables
counts_kept g h [] = refl
counts_kept g h (t ∷ ts) =
    let count : Rows → ℕ = λ table. length table.1 in
    rw (sum_by-cons count (g t) (map g ts), sum_by-cons count t ts, h t, counts_kept g h ts)

-- ---- rows

pub ascends_mapped : (f : Kept → Kept) → ((row : Kept) → (f row).key ≡ row.key) → (rows : List Kept) → Ascends rows → Ascends (map f rows)
ascends_mapped f h [] a = tt
ascends_mapped f h (row ∷ []) a = tt
ascends_mapped f h (row ∷ next ∷ rows) a = (rw (h row, h next) a.0, ascends_mapped f h (next ∷ rows) a.1)

pub rows_mapped : (s t : State) (number : ℕ) (f : Kept → Kept) (rows : List Kept) → Each (λ row. RowStands s number row → RowStands t number (f row)) rows → RowsStand s number rows → RowsStand t number (map f rows)
rows_mapped s t number f [] h stand = tt
rows_mapped s t number f (row ∷ rows) h stand = (h.0 stand.0, rows_mapped s t number f rows h.1 stand.1)

-- What one table of a state comes to in another one.
abbrev pub Carries : State → State → (Rows → Rows) → Rows → Type 0
Carries s t g table = Ascends table.1 → RowsStand s table.0 table.1 → Ascends (g table).1 × RowsStand t (g table).0 (g table).1

pub tables_mapped : (s t : State) (g : Rows → Rows) (tables : List Rows) → Each (Carries s t g) tables → TablesStand s tables → TablesStand t (map g tables)
tables_mapped s t g [] h stand = tt
tables_mapped s t g (table ∷ tables) h stand =
    let here = h.0 stand.0 stand.1 in
    (here.0, here.1, tables_mapped s t g tables h.1 stand.2)

-- Where each row that stands in the one state stands in the other, the tables do.
pub tables_moved : (s t : State) → ((number : ℕ) (row : Kept) → RowStands s number row → RowStands t number row) → (tables : List Rows) → TablesStand s tables → TablesStand t tables
tables_moved s t h [] stand = tt
tables_moved s t h (table ∷ tables) stand = (stand.0, rows_moved table.1 stand.1, tables_moved s t h tables stand.2)
  where
    rows_moved : (rows : List Kept) → RowsStand s table.0 rows → RowsStand t table.0 rows
    rows_moved [] stand = tt
    rows_moved (row ∷ rows) stand = (h table.0 row stand.0, rows_moved rows stand.1)
