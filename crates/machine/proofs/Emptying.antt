-- A batch that fills rows leaves fewer rows that have no new half.
use Rattle.std.proofs.Common.{◌≡◌, ℕ, ◌+◌, ◌<◌, ◌≤◌, ℤ, List, [], ◌∷◌, Bool, true, false, ◌&&◌, ◌||◌, cond, Option, Some, None, Ok, is_none, unwrap_or, refl, ◌∙◌, sym, ap, subst, length, map, sum_by, arith, int_cmp, int_eq, Ordering, Less, Equal, Greater, option_map}
use Rattle.std.specs.List.{AllByRecursion as Each, count_by, filter, list_any}
use Rattle.std.specs.Option.{option_map_or}
use Rattle.std.specs.Ordering.{match_ordering, is_eq}
use Rattle.std.proofs.lemmas.Bool.{false≢true}
use Rattle.std.proofs.lemmas.List.Sums.{sum_by-cons}
use Rattle.sql_base.specs.Laws.{and_then_ok, ok_same}
use Rattle.sql_base.specs.declared.values.Value.{Value}
use Rattle.mig_lens.specs.Lens.{forward}
use Rattle.row_rules.specs.Accept.{has_key, keys_of}
use Rattle.row_rules.specs.Changes.{after_changes, cause_together, changes, filled_row, put_row}
use Rattle.row_rules.specs.Rows.{rows_at}
use Rattle.row_rules.specs.Site.{Beside, Site, filled_beside, is_missing, name_of, number_of, shape_of, touched_by}
use Rattle.machine.specs.Done.{CommandOutcome, answered}
use Rattle.machine.specs.Follows.{goes_on_filling}
use Rattle.machine.specs.Laws.{BatchesLeaveFewer, UnfilledRowsAreFew, unfilled_rows}
use Rattle.machine.specs.Migrate.{batch, batch_settled, fill_keys, refused_batch}
use Rattle.machine.specs.Standing.{Ascends, IsState}
use Rattle.machine.specs.State.{Shared, beside_on, filling_site, missing_keys, rows_of, shared, with_rows}
use Rattle.machine.specs.Statement.{changed}
use Rattle.machine.specs.Words.{Filled, Halves, Kept, New, Reply, State, map_fault}
use Rattle.machine.specs.Words.job
use Rattle.machine.proofs.Accepting.{every_each, map_fault_ok}
use Rattle.machine.proofs.Choosing.{eq_self}
use Rattle.machine.proofs.Filling.{filling, fills}
use Rattle.machine.proofs.Outcomes.{Holds, batch_so, holds_then, holds_without}
use Rattle.machine.proofs.Pairs.{new_stands}
use Rattle.machine.proofs.Placing.{above_fresh, after_puts, ascends_above, ascends_rest, cmp_same, put_rows}
use Rattle.machine.proofs.Replacing.{rows_stand, with_rows_total}

-- ---- how many rows have no new half

abbrev count : List Kept → ℕ
count rows = count_by (λ row. is_none row.halves.new) rows

abbrev one_if : Bool → ℕ
one_if true = 1
one_if false = 0

-- the same, row by row
abbrev unfilled_in : List Kept → ℕ
unfilled_in [] = 0
unfilled_in (row ∷ rows) = one_if (is_none row.halves.new) + unfilled_in rows

counted : (rows : List Kept) → count rows ≡ unfilled_in rows
counted [] = refl
counted (row ∷ rows) = sum_by-cons (λ row. cond (is_none row.halves.new) 1 0) row rows ∙ by_test (is_none row.halves.new) (counted rows)
  where
    by_test : (b : Bool) → count rows ≡ unfilled_in rows → cond b 1 0 + count rows ≡ one_if b + unfilled_in rows
    by_test true there = omega (arith, there)
    by_test false there = omega (arith, there)

one_most : (b : Bool) → one_if b ≤ 1
one_most true = omega arith
one_most false = omega arith

unfilled_in_most : (rows : List Kept) → unfilled_in rows ≤ length rows
unfilled_in_most [] = omega arith
unfilled_in_most (row ∷ rows) = omega (arith, one_most (is_none row.halves.new), unfilled_in_most rows)

among_most : (tables : List (ℕ × List Kept)) → sum_by (λ table. count table.1) tables ≤ sum_by (λ table. length table.1) tables
among_most [] = omega arith
among_most (table ∷ tables) =
    omega (
      arith,
      counted table.1,
      unfilled_in_most table.1,
      among_most tables,
      sum_by-cons (λ (table : ℕ × List Kept). count table.1) table tables,
      sum_by-cons (λ (table : ℕ × List Kept). length table.1) table tables,
    )

pub unfilled_rows_are_few : UnfilledRowsAreFew
unfilled_rows_are_few s stands = omega (arith, among_most s.tables, stands.few)

-- ---- a row with its new half is put in its place

put_not_more : (row : Kept) (rows : List Kept) → is_none row.halves.new ≡ false → unfilled_in (put_row row rows) ≤ unfilled_in rows
put_not_more row [] h = omega (arith, ap one_if h)
put_not_more row (first ∷ rows) h = by_order (put_not_more row rows h) (int_cmp row.key first.key)
  where
    by_order : unfilled_in (put_row row rows) ≤ unfilled_in rows → (o : Ordering) → unfilled_in (match_ordering o (row ∷ first ∷ rows) (row ∷ rows) (first ∷ put_row row rows)) ≤ unfilled_in (first ∷ rows)
    by_order there Less = omega (arith, ap one_if h)
    by_order there Equal = omega (arith, ap one_if h)
    by_order there Greater = omega (arith, there)

-- whether a row of this key has no new half
abbrev unfilled_at : ℤ → List Kept → Bool
unfilled_at key [] = false
unfilled_at key (row ∷ rows) = int_eq key row.key && is_none row.halves.new || unfilled_at key rows

either : (a b : Bool) {P : Type 0} → (a || b) ≡ true → (a ≡ true → P) → (b ≡ true → P) → P
either true b h p q = p refl
either false b h p q = q h

both : (a b : Bool) → (a && b) ≡ true → (a ≡ true) × (b ≡ true)
both true b h = (refl, h)
both false b h = cc

or_left : (a b : Bool) → a ≡ true → (a || b) ≡ true
or_left true b h = refl
or_left false b h = cc

or_right : (a b : Bool) → b ≡ true → (a || b) ≡ true
or_right true b h = refl
or_right false b h = h

at_key : (key : ℤ) (rows : List Kept) → unfilled_at key rows ≡ true → has_key key rows ≡ true
at_key key [] h = cc
at_key key (row ∷ rows) h =
    either (int_eq key row.key && is_none row.halves.new) (unfilled_at key rows) h
    (λ e. or_left (int_eq key row.key) (has_key key rows) (both (int_eq key row.key) (is_none row.halves.new) e).0)
    (λ e. or_right (int_eq key row.key) (has_key key rows) (at_key key rows e))

put_fewer : (row : Kept) (rows : List Kept) → is_none row.halves.new ≡ false → Ascends rows → unfilled_at row.key rows ≡ true → unfilled_in (put_row row rows) < unfilled_in rows
put_fewer row [] h a at = cc
put_fewer row (first ∷ rows) h a at = by_order (put_fewer row rows h (ascends_rest first rows a)) (int_cmp row.key first.key) refl
  where
    known : has_key row.key (first ∷ rows) ≡ true
    known = at_key row.key (first ∷ rows) at

    here : int_cmp row.key first.key ≡ Equal → is_none first.halves.new ≡ true
    here e = either (int_eq row.key first.key && is_none first.halves.new) (unfilled_at row.key rows) at
        (λ k. (both (int_eq row.key first.key) (is_none first.halves.new) k).1)
        (λ k. let later : has_key row.key rows ≡ true = at_key row.key rows k in
        let same : row.key ≡ first.key = cmp_same row.key first.key e in
        let fresh : has_key row.key rows ≡ false = ap (λ key. has_key key rows) same ∙ above_fresh first.key rows (ascends_above first rows a) (ascends_rest first rows a) in
        cc)

    by_order : (unfilled_at row.key rows ≡ true → unfilled_in (put_row row rows) < unfilled_in rows) → (o : Ordering) → int_cmp row.key first.key ≡ o
        → unfilled_in (match_ordering o (row ∷ first ∷ rows) (row ∷ rows) (first ∷ put_row row rows)) < unfilled_in (first ∷ rows)
    by_order there Less e =
        let fresh : has_key row.key (first ∷ rows) ≡ false = above_fresh row.key (first ∷ rows) e a in
        let there_is : has_key row.key (first ∷ rows) ≡ true = known in
        absurd cc
    by_order there Equal e = omega (arith, ap one_if h, ap one_if (here e))
    by_order there Greater e =
        let differ : int_eq row.key first.key ≡ false = ap is_eq e in
        let elsewhere : unfilled_at row.key rows ≡ true = ap (λ b. b && is_none first.halves.new || unfilled_at row.key rows) (sym differ) ∙ at in
        omega (arith, there elsewhere)

-- each of these rows has its new half
abbrev AllFilled : List Kept → Type 0
AllFilled [] = Unit {0}
AllFilled (row ∷ rows) = (is_none row.halves.new ≡ false) × AllFilled rows

puts_not_more : (new rows : List Kept) → AllFilled new → unfilled_in (put_rows new rows) ≤ unfilled_in rows
puts_not_more [] rows h = omega arith
puts_not_more (row ∷ new) rows h = omega (arith, put_not_more row rows h.0, puts_not_more new (put_row row rows) h.1)

-- and the first replaces one that has none
abbrev FirstAt : List Kept → List Kept → Type 0
FirstAt [] rows = ⊥
FirstAt (row ∷ new) rows = unfilled_at row.key rows ≡ true

puts_fewer : (new rows : List Kept) → AllFilled new → Ascends rows → FirstAt new rows → unfilled_in (put_rows new rows) < unfilled_in rows
puts_fewer [] rows h a at = absurd at
puts_fewer (row ∷ new) rows h a at = omega (arith, put_fewer row rows h.0 a at, puts_not_more new (put_row row rows) h.1)

-- ---- the rows that a batch makes

-- a row that a write through the new version begins with has its new half
begun_new : (beside : Beside) (old new : Option (List Value)) (made : Halves) → filled_beside beside (record { old = old; new = new }) ≡ Ok made → is_none made.new ≡ false
begun_new beside old (Some values) made h = ap (λ (m : Halves). is_none m.new) (sym (ok_same (record { old = old; new = Some values }) made h))
begun_new beside old None made h =
    let step = and_then_ok (forward beside.lens (shape_of beside.table) (unwrap_or old []) None) (λ made. Ok (record { old = old; new = Some made })) made h in
    ap (λ (m : Halves). is_none m.new) (sym (ok_same (record { old = old; new = Some step.0 }) made step.2))

filled_new : (site : Site) (beside : Beside) → site.side ≡ New → site.there ≡ Some beside → (row made : Kept) → filled_row site row ≡ Ok made → is_none made.halves.new ≡ false
filled_new site beside side there row made h =
    let f = fills site row made h in
    let begun : touched_by (Some beside) New row.halves ≡ Ok f.halves = ap (λ there. touched_by there New row.halves) (sym there) ∙ ap (λ side. touched_by site.there side row.halves) (sym side) ∙ f.are_made in
    ap (λ (r : Kept). is_none r.halves.new) (sym f.is) ∙ begun_new beside row.halves.old row.halves.new f.halves begun

all_filled : (new : List Kept) → Each (λ row. is_none row.halves.new ≡ false) new → AllFilled new
all_filled [] h = tt
all_filled (row ∷ new) h = (h.0, all_filled new h.1)

-- ---- the keys of a batch are missing ones

-- a key among these that rows without new halves have
key_among : (rows : List Kept) (key : ℤ) → list_any (int_eq key) (map (λ row. row.key) (filter (λ row. is_none row.halves.new) rows)) ≡ true → unfilled_at key rows ≡ true
key_among [] key h = cc
key_among (row ∷ rows) key h = by_test (key_among rows key) (is_none row.halves.new) refl h
  where
    by_test : (list_any (int_eq key) (map (λ row. row.key) (filter (λ row. is_none row.halves.new) rows)) ≡ true → unfilled_at key rows ≡ true) → (b : Bool) → is_none row.halves.new ≡ b → list_any (int_eq key) (map (λ row. row.key) (cond b (row ∷ filter (λ row. is_none row.halves.new) rows) (filter (λ row. is_none row.halves.new) rows))) ≡ true → (int_eq key row.key && is_none row.halves.new || unfilled_at key rows) ≡ true
    by_test there true e k = either (int_eq key row.key) (list_any (int_eq key) (map (λ row. row.key) (filter (λ row. is_none row.halves.new) rows))) k
        (λ t. or_left (int_eq key row.key && is_none row.halves.new) (unfilled_at key rows) (rw (t, e) refl))
        (λ t. or_right (int_eq key row.key && is_none row.halves.new) (unfilled_at key rows) (there t))
    by_test there false e k = or_right (int_eq key row.key && is_none row.halves.new) (unfilled_at key rows) (there k)

-- a key of some of these keys is one of these
some_of : (chosen : ℤ → Bool) (keys : List ℤ) (key : ℤ) → list_any (int_eq key) (filter chosen keys) ≡ true → list_any (int_eq key) keys ≡ true
some_of chosen [] key h = h
some_of chosen (one ∷ keys) key h = by_test (some_of chosen keys key) (chosen one) h
  where
    by_test : (list_any (int_eq key) (filter chosen keys) ≡ true → list_any (int_eq key) keys ≡ true) → (b : Bool) → list_any (int_eq key) (cond b (one ∷ filter chosen keys) (filter chosen keys)) ≡ true → (int_eq key one || list_any (int_eq key) keys) ≡ true
    by_test there true k = either (int_eq key one) (list_any (int_eq key) (filter chosen keys)) k (λ t. or_left (int_eq key one) (list_any (int_eq key) keys) t) (λ t. or_right (int_eq key one) (list_any (int_eq key) keys) (there t))
    by_test there false k = or_right (int_eq key one) (list_any (int_eq key) keys) (there k)

-- the rows of some keys have those keys
abbrev FirstAmong : (ℤ → Bool) → List Kept → Type 0
FirstAmong p [] = Unit {0}
FirstAmong p (row ∷ rows) = p row.key ≡ true

first_among : (p : ℤ → Bool) (rows : List Kept) → FirstAmong p (filter (λ row. p row.key) rows)
first_among p [] = tt
first_among p (row ∷ rows) = by_test (first_among p rows) (p row.key) refl
  where
    by_test : FirstAmong p (filter (λ row. p row.key) rows) → (b : Bool) → p row.key ≡ b → FirstAmong p (cond b (row ∷ filter (λ row. p row.key) rows) (filter (λ row. p row.key) rows))
    by_test there true e = e
    by_test there false e = there

module _ (p : ℤ → Bool) (rows : List Kept) (at : (key : ℤ) → p key ≡ true → unfilled_at key rows ≡ true) where
  first_at : (new picked : List Kept) → keys_of new ≡ keys_of picked → FirstAmong p picked → 1 ≤ length picked → FirstAt new rows
  first_at new [] keys first long = absurd (omega arith)
  first_at [] (one ∷ picked) keys first long = cc
  first_at (row ∷ new) (one ∷ picked) keys first long = let same : row.key ≡ one.key = cc in at row.key (ap p same ∙ first)

-- ---- some row is filled

pub same_key : (x y : ℤ) → int_eq x y ≡ true → x ≡ y
same_key x y h = by_order (int_cmp x y) refl h
  where
    by_order : (o : Ordering) → int_cmp x y ≡ o → is_eq o ≡ true → x ≡ y
    by_order Less e h = cc
    by_order Equal e h = cmp_same x y e
    by_order Greater e h = cc

first_key : (keys : List ℤ) → 1 ≤ length keys → (key : ℤ) × (list_any (int_eq key) keys ≡ true)
first_key [] h = absurd (omega arith)
first_key (key ∷ keys) h = (key, or_left (int_eq key key) (list_any (int_eq key) keys) (eq_self key))

picked_some : (keys : List ℤ) (key : ℤ) → list_any (int_eq key) keys ≡ true → (rows : List Kept) → has_key key rows ≡ true → 1 ≤ length (rows_at keys rows)
picked_some keys key among [] h = cc
picked_some keys key among (row ∷ rows) h = by_test (picked_some keys key among rows) (list_any (int_eq row.key) keys) refl
  where
    by_test : (has_key key rows ≡ true → 1 ≤ length (rows_at keys rows)) → (b : Bool) → list_any (int_eq row.key) keys ≡ b → 1 ≤ length (cond b (row ∷ rows_at keys rows) (rows_at keys rows))
    by_test more true e = omega arith
    by_test more false e =
        either (int_eq key row.key) (has_key key rows) h
        (λ same. let is : key ≡ row.key = same_key key row.key same in absurd (false≢true (sym e ∙ ap (λ k. list_any (int_eq k) keys) (sym is) ∙ among)))
        (λ there. more there)

-- ---- a batch

abbrev Fewer : State → Reply → State → Type 0
Fewer s answer t = goes_on_filling answer ≡ true → unfilled_rows t < unfilled_rows s

-- the site through which a shared table is filled
filling_there : (s : State) (number : ℕ) (pair : Shared) → shared s number ≡ Some pair → number_of pair.new ≡ number → (filling_site s pair).there ≡ Some (beside_on New pair)
filling_there s number pair is same = ap (λ n. option_map (beside_on New) (shared s n)) same ∙ ap (option_map (beside_on New)) is

batch_fewer : (s : State) (number : ℕ) (pair : Shared) (chosen : ℤ → Bool) → IsState s → shared s number ≡ Some pair → 1 ≤ length (filter chosen (missing_keys s number))
    → Holds (Fewer s) (batch s pair (rows_at (filter chosen (missing_keys s number)) (rows_of s number)))
batch_fewer s number pair chosen stands is some =
    let site = filling_site s pair in
    let rows = rows_of s number in
    let keys = filter chosen (missing_keys s number) in
    let picked = rows_at keys rows in
    let same = (new_stands s number pair stands is).0 in
    let missing : missing_keys s number ≡ keys_of (filter is_missing rows) = ap (λ (found : Option Shared). option_map_or (λ pair. keys_of (filter is_missing rows)) found []) is in
    let at : (key : ℤ) → list_any (int_eq key) keys ≡ true → unfilled_at key rows ≡ true =
    λ key k. key_among rows key (subst (λ all. list_any (int_eq key) all ≡ true) missing (some_of chosen (missing_keys s number) key k)) in
    let key = first_key keys some in
    let long = picked_some keys key.0 key.1 rows (at_key key.0 rows (at key.0 key.1)) in
    holds_then (Fewer s) (map_fault (refused_batch (name_of pair.new)) (changes site job.Fill picked)) (batch_settled s pair)
    (λ all e.
    let f = filling site picked all (map_fault_ok (refused_batch (name_of pair.new)) (changes site job.Fill picked) all e) in
    let filled = all_filled f.new (every_each (filled_row site) (λ row. is_none row.halves.new ≡ false) (filled_new site (beside_on New pair) refl (filling_there s number pair is same)) picked f.new f.made) in
    let first = first_at (λ key. list_any (int_eq key) keys) rows at f.new picked f.keys (first_among (λ key. list_any (int_eq key) keys) rows) long in
    let fewer = puts_fewer f.new rows filled (rows_stand s number stands).0 first in
    let all_rows = with_rows_total count refl s number (put_rows f.new rows) stands in
    let less : unfilled_rows (with_rows s number (put_rows f.new rows)) < unfilled_rows s = omega (arith, all_rows, counted rows, counted (put_rows f.new rows), fewer) in
    let puts : put_rows f.new rows ≡ after_changes all rows = sym (after_puts f.new rows) ∙ ap (λ all. after_changes all rows) f.puts in
    let here : unfilled_rows (with_rows s number (after_changes all rows)) < unfilled_rows s = subst (λ rows. unfilled_rows (with_rows s number rows) < unfilled_rows s) puts less in
    holds_without (Fewer s) (option_map (refused_batch (name_of pair.new)) (cause_together site job.Fill (rows_of s (number_of pair.new)) all)) (changed s site job.Fill all)
    (λ none goes. subst (λ n. unfilled_rows (with_rows s n (after_changes all (rows_of s n))) < unfilled_rows s) (sym same) here))

keys_fewer : (s : State) (number : ℕ) (chosen : ℤ → Bool) → IsState s → 1 ≤ length (filter chosen (missing_keys s number)) → Holds (Fewer s) (fill_keys s number (filter chosen (missing_keys s number)))
keys_fewer s number chosen stands some = by_pair (shared s number) refl
  where
    by_pair : (found : Option Shared) → shared s number ≡ found → Holds (Fewer s) (option_map_or {U = CommandOutcome} (λ pair. batch s pair (rows_at (filter chosen (missing_keys s number)) (rows_of s number))) found (Ok (answered s Filled)))
    by_pair None is = λ goes. cc
    by_pair (Some pair) is = batch_fewer s number pair chosen stands is some

pub batches_leave_fewer : BatchesLeaveFewer
batches_leave_fewer s n answer t step stands goes =
    batch_so s (Fewer s) (record { refused = λ refusal goes. cc; filled = λ goes. cc; some = λ number chosen some. keys_fewer s number chosen stands some }) (λ goes. cc) n answer t step goes
