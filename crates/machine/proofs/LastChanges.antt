-- Which rows there are after changes, and how many: of each key its last change tells it.
use Rattle.std.proofs.Common.{◌≡◌, ◌∙◌, ◌⊎◌, inl, inr, ℕ, ◌+◌, ℤ, List, [], ◌∷◌, Bool, true, false, cond, not, ◌||◌, ◌&&◌, refl, sym, ap, subst, true≢false, if◌then◌else◌, arith, filter, length, int_cmp, int_eq, Ordering, Less, Equal, Greater}
use Rattle.std.specs.List.{AllByRecursion as Each}
use Rattle.std.specs.Ordering.{is_eq, match_ordering}
use Rattle.row_rules.specs.declared.kinds.Change.{Change}
use Rattle.row_rules.specs.declared.kinds.Change.TheVariants.{Put, Remove}
use Rattle.row_rules.specs.declared.kinds.Kept.{Kept}
use Rattle.row_rules.specs.Accept.{has_key}
use Rattle.row_rules.specs.Changes.{after_changes, key_changed, keys_changed, put_row, rows_put}
use Rattle.row_rules.specs.Laws.{ChangesKeepOrder}
use Rattle.machine.specs.MayPut.{is_changed, last_changes, rows_gone, rows_left}
use Rattle.machine.specs.Standing.{Ascends}
use Rattle.machine.proofs.Choosing.{eq_self, eq_turns}
use Rattle.machine.proofs.Clashes.{IsAmong, above_each}
use Rattle.machine.proofs.Emptying.{same_key}
use Rattle.machine.proofs.Moving.{each, each_both, each_so, filter_all}
use Rattle.machine.proofs.Placing.{ascends_above, ascends_rest, cmp_flips, cmp_same, neither, put_ascends}

abbrev others : ℤ → List Kept → List Kept
others key rows = filter (λ row. not (int_eq row.key key)) rows

-- ---- rows that are put are there

put_in : (row : Kept) (rows : List Kept) → IsAmong (put_row row rows) row
put_in row [] = inl refl
put_in row (first ∷ rows) = by_order (int_cmp row.key first.key) (put_in row rows)
  where
    by_order : (o : Ordering) → IsAmong (put_row row rows) row → IsAmong (match_ordering o (row ∷ first ∷ rows) (row ∷ rows) (first ∷ put_row row rows)) row
    by_order Less there = inl refl
    by_order Equal there = inl refl
    by_order Greater there = inr there

differ_from : (row other : Kept) → other ≡ row → int_eq other.key row.key ≡ false → ⊥
differ_from row other is differ =
    let self : int_eq other.key row.key ≡ true = subst (λ key. int_eq other.key key ≡ true) (ap (λ (r : Kept). r.key) is) (eq_self other.key) in
    true≢false (sym self ∙ differ)

put_keeps : (row other : Kept) (rows : List Kept) → int_eq other.key row.key ≡ false → IsAmong rows other → IsAmong (put_row row rows) other
put_keeps row other [] differ a = absurd a
put_keeps row other (first ∷ rows) differ a = by_order (int_cmp row.key first.key) refl a (put_keeps row other rows differ)
  where
    by_order : (o : Ordering) → int_cmp row.key first.key ≡ o → IsAmong (first ∷ rows) other → (IsAmong rows other → IsAmong (put_row row rows) other) → IsAmong (match_ordering o (row ∷ first ∷ rows) (row ∷ rows) (first ∷ put_row row rows)) other
    by_order Less e a there = inr a
    by_order Equal e (inl is) there = absurd (differ_from first other is (subst (λ key. int_eq other.key key ≡ false) (cmp_same row.key first.key e) differ))
    by_order Equal e (inr a) there = inr a
    by_order Greater e (inl is) there = inl is
    by_order Greater e (inr a) there = inr (there a)

others_keep : (key : ℤ) (other : Kept) (rows : List Kept) → int_eq other.key key ≡ false → IsAmong rows other → IsAmong (others key rows) other
others_keep key other [] differ a = absurd a
others_keep key other (first ∷ rows) differ a = by_test (int_eq first.key key) refl a (others_keep key other rows differ)
  where
    by_test : (b : Bool) → int_eq first.key key ≡ b → IsAmong (first ∷ rows) other → (IsAmong rows other → IsAmong (others key rows) other) → IsAmong (cond (not b) (first ∷ others key rows) (others key rows)) other
    by_test true e (inl is) there = absurd (true≢false (sym e ∙ ap (λ (r : Kept). int_eq r.key key) (sym is) ∙ differ))
    by_test true e (inr a) there = there a
    by_test false e (inl is) there = inl is
    by_test false e (inr a) there = inr (there a)

-- A row whose key isn't changed stays.
unchanged_stays : (all : List Change) (rows : List Kept) (row : Kept) → is_changed row.key all ≡ false → IsAmong rows row → IsAmong (after_changes all rows) row
unchanged_stays [] rows row c a = a
unchanged_stays (Put new ∷ all) rows row c a =
    let parts = neither (int_eq row.key new.key) (is_changed row.key all) c in
    unchanged_stays all (put_row new rows) row parts.1 (put_keeps new row rows parts.0 a)
unchanged_stays (Remove key ∷ all) rows row c a =
    let parts = neither (int_eq row.key key) (is_changed row.key all) c in
    unchanged_stays all (others key rows) row parts.1 (others_keep key row rows parts.0 a)

-- A row that the changes leave is there.
pub left_among : (all : List Change) (rows : List Kept) → Each (IsAmong (after_changes all rows)) (rows_left all)
left_among [] rows = tt
left_among (Put row ∷ all) rows = by_test (is_changed row.key all) refl (left_among all (put_row row rows))
  where
    by_test : (b : Bool) → is_changed row.key all ≡ b → Each (IsAmong (after_changes all (put_row row rows))) (rows_left all) → Each (IsAmong (after_changes all (put_row row rows))) (rows_put (if b then last_changes all else Put row ∷ last_changes all))
    by_test true e there = there
    by_test false e there = (unchanged_stays all (put_row row rows) row e (put_in row rows), there)
left_among (Remove key ∷ all) rows = by_test (is_changed key all) (left_among all (others key rows))
  where
    by_test : (b : Bool) → Each (IsAmong (after_changes all (others key rows))) (rows_left all) → Each (IsAmong (after_changes all (others key rows))) (rows_put (if b then last_changes all else Remove key ∷ last_changes all))
    by_test true there = there
    by_test false there = there

-- ---- each row that is there was left, or was there before

-- What holds of the row that is put, and follows for each row of another key.
put_other : (Before After : Kept → Type 0) (row : Kept) (rows : List Kept) → Ascends rows → After row → ((other : Kept) → int_eq other.key row.key ≡ false → Before other → After other) → Each Before rows → Each After (put_row row rows)
put_other Before After row [] a r so h = (r, tt)
put_other Before After row (first ∷ rows) a r so h = by_order (int_cmp row.key first.key) refl (put_other Before After row rows (ascends_rest first rows a) r so h.1)
  where
    by_order : (o : Ordering) → int_cmp row.key first.key ≡ o → Each After (put_row row rows) → Each After (match_ordering o (row ∷ first ∷ rows) (row ∷ rows) (first ∷ put_row row rows))
    by_order Less e there =
        (r, each_both (λ other. int_eq other.key row.key ≡ false) Before After so (first ∷ rows) (above_each row.key (first ∷ rows) e a) h)
    by_order Equal e there =
        let differ = above_each first.key rows (ascends_above first rows a) (ascends_rest first rows a) in
        let from_row = subst (λ key. Each (λ (other : Kept). int_eq other.key key ≡ false) rows) (sym (cmp_same row.key first.key e)) differ in
        (r, each_both (λ other. int_eq other.key row.key ≡ false) Before After so rows from_row h.1)
    by_order Greater e there = (so first (ap is_eq (cmp_flips row.key first.key e)) h.0, there)

others_so : (Before After : Kept → Type 0) (key : ℤ) (rows : List Kept) → ((other : Kept) → int_eq other.key key ≡ false → Before other → After other) → Each Before rows → Each After (others key rows)
others_so Before After key [] so h = tt
others_so Before After key (first ∷ rows) so h = by_test (int_eq first.key key) refl (others_so Before After key rows so h.1)
  where
    by_test : (b : Bool) → int_eq first.key key ≡ b → Each After (others key rows) → Each After (cond (not b) (first ∷ others key rows) (others key rows))
    by_test true e there = there
    by_test false e there = (so first e h.0, there)

module _ (order : ChangesKeepOrder) (P : Kept → Type 0) where
  -- It holds of the row, or its key is still changed.
  abbrev Until : List Change → Kept → Type 0
  Until all row = P row ⊎ (is_changed row.key all ≡ true)

  sooner : (key : ℤ) (all : List Change) (row : Kept) → int_eq row.key key ≡ false → P row ⊎ ((int_eq row.key key || is_changed row.key all) ≡ true) → Until all row
  sooner key all row differ (inl p) = inl p
  sooner key all row differ (inr c) = inr (ap (λ b. b || is_changed row.key all) (sym differ) ∙ c)

  put_left : (row : Kept) (all : List Change) → Each P (rows_left (Put row ∷ all)) → Until all row × Each P (rows_left all)
  put_left row all h = by_test (is_changed row.key all) refl h
    where
      by_test : (b : Bool) → is_changed row.key all ≡ b → Each P (rows_put (if b then last_changes all else Put row ∷ last_changes all)) → Until all row × Each P (rows_left all)
      by_test true e h = (inr e, h)
      by_test false e h = (inl h.0, h.1)

  remove_left : (key : ℤ) (all : List Change) → Each P (rows_left (Remove key ∷ all)) → Each P (rows_left all)
  remove_left key all h = by_test (is_changed key all) h
    where
      by_test : (b : Bool) → Each P (rows_put (if b then last_changes all else Remove key ∷ last_changes all)) → Each P (rows_left all)
      by_test true h = h
      by_test false h = h

  at_end : (row : Kept) → Until [] row → P row
  at_end row (inl p) = p
  at_end row (inr c) = cc

  until_left : (all : List Change) (rows : List Kept) → Ascends rows → Each P (rows_left all) → Each (Until all) rows → Each P (after_changes all rows)
  until_left [] rows a l h = each_so (Until []) P at_end rows h
  until_left (Put row ∷ all) rows a l h =
      let parts = put_left row all l in
      until_left all (put_row row rows) (put_ascends row rows a) parts.1
      (put_other (Until (Put row ∷ all)) (Until all) row rows a parts.0 (sooner row.key all) h)
  until_left (Remove key ∷ all) rows a l h =
      until_left all (others key rows) (order (Remove key ∷ []) rows a) (remove_left key all l)
      (others_so (Until (Remove key ∷ all)) (Until all) key rows (sooner key all) h)

  -- What holds of the rows that changes leave, and of the older ones, holds of each row afterwards.
  pub left_each : (all : List Change) (rows : List Kept) → Ascends rows → Each P (rows_left all) → Each P rows → Each P (after_changes all rows)
  left_each all rows a l h = until_left all rows a l (each_so P (Until all) (λ row p. inl p) rows h)

-- ---- how many rows there are

abbrev pub one : Bool → ℕ
one b = if b then 1 else 0

pub count_cons : {X : Type 0} (p : X → Bool) (x : X) (xs : List X) → length (filter p (x ∷ xs)) ≡ one (p x) + length (filter p xs)
count_cons p x xs = by_test (p x)
  where
    by_test : (b : Bool) → length (cond b (x ∷ filter p xs) (filter p xs)) ≡ one b + length (filter p xs)
    by_test true = omega arith
    by_test false = omega arith

filter_same : (p q : Kept → Bool) → ((row : Kept) → p row ≡ q row) → (rows : List Kept) → filter p rows ≡ filter q rows
filter_same p q h [] = refl
filter_same p q h (row ∷ rows) =
    ap (λ b. cond b (row ∷ filter p rows) (filter p rows)) (h row) ∙ ap (λ rest. cond (q row) (row ∷ rest) rest) (filter_same p q h rows)

filter_twice : (p q : Kept → Bool) (rows : List Kept) → filter p (filter q rows) ≡ filter (λ row. q row && p row) rows
filter_twice p q [] = refl
filter_twice p q (row ∷ rows) = by_test (q row) (filter_twice p q rows)
  where
    by_test : (b : Bool) → filter p (filter q rows) ≡ filter (λ row. q row && p row) rows → filter p (cond b (row ∷ filter q rows) (filter q rows)) ≡ cond (b && p row) (row ∷ filter (λ row. q row && p row) rows) (filter (λ row. q row && p row) rows)
    by_test true there = ap (λ rest. cond (p row) (row ∷ rest) rest) there
    by_test false there = there

-- Rows of other keys that pass a test.
abbrev passing : ℤ → (Kept → Bool) → List Kept → List Kept
passing key p rows = filter (λ row. not (int_eq row.key key) && p row) rows

passing_all : (key : ℤ) (p : Kept → Bool) (rows : List Kept) → Each (λ row. int_eq row.key key ≡ false) rows → passing key p rows ≡ filter p rows
passing_all key p [] h = refl
passing_all key p (row ∷ rows) h =
    ap (λ b. cond (not b && p row) (row ∷ passing key p rows) (passing key p rows)) h.0 ∙ ap (λ rest. cond (p row) (row ∷ rest) rest) (passing_all key p rows h.1)

passing_rest : (key : ℤ) (p : Kept → Bool) (row : Kept) (rows : List Kept) → int_eq row.key key ≡ true → passing key p (row ∷ rows) ≡ passing key p rows
passing_rest key p row rows e = ap (λ b. cond (not b && p row) (row ∷ passing key p rows) (passing key p rows)) e

passing_first : (key : ℤ) (p : Kept → Bool) (row : Kept) (rows : List Kept) → int_eq row.key key ≡ false → length (passing key p (row ∷ rows)) ≡ one (p row) + length (passing key p rows)
passing_first key p row rows e =
    count_cons (λ row. not (int_eq row.key key) && p row) row rows ∙ ap (λ b. one (not b && p row) + length (passing key p rows)) e

put_counts : (p : Kept → Bool) (row : Kept) (rows : List Kept) → Ascends rows → length (filter p (put_row row rows)) ≡ one (p row) + length (passing row.key p rows)
put_counts p row [] a = count_cons p row []
put_counts p row (first ∷ rows) a = by_order (int_cmp row.key first.key) refl (put_counts p row rows (ascends_rest first rows a))
  where
    by_order : (o : Ordering) → int_cmp row.key first.key ≡ o → length (filter p (put_row row rows)) ≡ one (p row) + length (passing row.key p rows) → length (filter p (match_ordering o (row ∷ first ∷ rows) (row ∷ rows) (first ∷ put_row row rows))) ≡ one (p row) + length (passing row.key p (first ∷ rows))
    by_order Less e there =
        count_cons p row (first ∷ rows) ∙ ap (λ others. one (p row) + length others) (sym (passing_all row.key p (first ∷ rows) (above_each row.key (first ∷ rows) e a)))
    by_order Equal e there =
        let same : row.key ≡ first.key = cmp_same row.key first.key e in
        let is : int_eq first.key row.key ≡ true = subst (λ key. int_eq first.key key ≡ true) (sym same) (eq_self first.key) in
        let differ = above_each first.key rows (ascends_above first rows a) (ascends_rest first rows a) in
        let all : passing row.key p rows ≡ filter p rows = passing_all row.key p rows (subst (λ key. Each (λ (other : Kept). int_eq other.key key ≡ false) rows) (sym same) differ) in
        count_cons p row rows ∙ ap (λ others. one (p row) + length others) (sym (passing_rest row.key p first rows is ∙ all))
    by_order Greater e there =
        let first_counts = passing_first row.key p first rows (ap is_eq (cmp_flips row.key first.key e)) in
        let head = count_cons p first (put_row row rows) in
        omega (arith, first_counts, head, there)

-- Without the row of a key that passes.
without_counts : (key : ℤ) (p : Kept → Bool) → ((row : Kept) → int_eq row.key key ≡ true → p row ≡ true) → (rows : List Kept) → Ascends rows → length (passing key p rows) + one (has_key key rows) ≡ length (filter p rows)
without_counts key p h [] a = omega arith
without_counts key p h (first ∷ rows) a = by_test (int_eq first.key key) refl (without_counts key p h rows (ascends_rest first rows a))
  where
    by_test : (b : Bool) → int_eq first.key key ≡ b → length (passing key p rows) + one (has_key key rows) ≡ length (filter p rows) → length (passing key p (first ∷ rows)) + one (has_key key (first ∷ rows)) ≡ length (filter p (first ∷ rows))
    by_test true e there =
        let differ = above_each first.key rows (ascends_above first rows a) (ascends_rest first rows a) in
        let all : passing key p rows ≡ filter p rows = passing_all key p rows (subst (λ k. Each (λ (other : Kept). int_eq other.key k ≡ false) rows) (same_key first.key key e) differ) in
        let counts : length (passing key p (first ∷ rows)) ≡ length (filter p rows) = ap (λ others. length others) (passing_rest key p first rows e ∙ all) in
        let has : one (has_key key (first ∷ rows)) ≡ 1 = ap (λ b. one (b || has_key key rows)) (eq_turns key first.key ∙ e) in
        let head : length (filter p (first ∷ rows)) ≡ 1 + length (filter p rows) = count_cons p first rows ∙ ap (λ b. one b + length (filter p rows)) (h first e) in
        omega (arith, counts, has, head)
    by_test false e there =
        let counts = passing_first key p first rows e in
        let has : one (has_key key (first ∷ rows)) ≡ one (has_key key rows) = ap (λ b. one (b || has_key key rows)) (eq_turns key first.key ∙ e) in
        let head = count_cons p first rows in
        omega (arith, counts, has, head, there)

-- The older rows that stay.
abbrev unchanged : List Change → Kept → Bool
unchanged all row = not (is_changed row.key all)

abbrev staying : List Change → List Kept → List Kept
staying all rows = filter (unchanged all) rows

neither_is : (a b : Bool) → (not a && not b) ≡ not (a || b)
neither_is true b = refl
neither_is false b = refl

passing_stays : (change : Change) (all : List Change) (rows : List Kept) → passing (key_changed change) (unchanged all) rows ≡ staying (change ∷ all) rows
passing_stays change all rows =
    filter_same (λ row. not (int_eq row.key (key_changed change)) && unchanged all row) (unchanged (change ∷ all)) (λ row. neither_is (int_eq row.key (key_changed change)) (is_changed row.key all)) rows

put_left_count : (row : Kept) (all : List Change) → length (rows_left (Put row ∷ all)) ≡ one (unchanged all row) + length (rows_left all)
put_left_count row all = by_test (is_changed row.key all)
  where
    by_test : (b : Bool) → length (rows_put (if b then last_changes all else Put row ∷ last_changes all)) ≡ one (not b) + length (rows_left all)
    by_test true = omega arith
    by_test false = omega arith

remove_left_count : (key : ℤ) (all : List Change) → length (rows_left (Remove key ∷ all)) ≡ length (rows_left all)
remove_left_count key all = by_test (is_changed key all)
  where
    by_test : (b : Bool) → length (rows_put (if b then last_changes all else Remove key ∷ last_changes all)) ≡ length (rows_left all)
    by_test true = refl
    by_test false = refl

after_counts : ChangesKeepOrder → (all : List Change) (rows : List Kept) → Ascends rows → length (after_changes all rows) ≡ length (staying all rows) + length (rows_left all)
after_counts order [] rows a =
    let all : staying [] rows ≡ rows = filter_all (unchanged []) rows (each (λ row. unchanged [] row ≡ true) (λ row. refl) rows) in
    let counts : length (staying [] rows) ≡ length rows = ap (λ rows. length rows) all in
    omega (arith, counts)
after_counts order (Put row ∷ all) rows a =
    let there = after_counts order all (put_row row rows) (put_ascends row rows a) in
    let here = put_counts (unchanged all) row rows a in
    let same : length (passing row.key (unchanged all) rows) ≡ length (staying (Put row ∷ all) rows) = ap (λ rows. length rows) (passing_stays (Put row) all rows) in
    let left = put_left_count row all in
    omega (arith, there, here, same, left)
after_counts order (Remove key ∷ all) rows a =
    let there = after_counts order all (others key rows) (order (Remove key ∷ []) rows a) in
    let same : length (staying all (others key rows)) ≡ length (staying (Remove key ∷ all) rows) = ap (λ rows. length rows) (filter_twice (unchanged all) (λ row. not (int_eq row.key key)) rows ∙ passing_stays (Remove key) all rows) in
    let left = remove_left_count key all in
    omega (arith, there, same, left)

gone_counts : (all : List Change) (rows : List Kept) → Ascends rows → length (staying all rows) + rows_gone rows all ≡ length rows
gone_counts [] rows a =
    let all : staying [] rows ≡ rows = filter_all (unchanged []) rows (each (λ row. unchanged [] row ≡ true) (λ row. refl) rows) in
    let counts : length (staying [] rows) ≡ length rows = ap (λ rows. length rows) all in
    omega (arith, counts)
gone_counts (change ∷ all) rows a = by_test (is_changed key all) refl (gone_counts all rows a)
  where
    key : ℤ
    key = key_changed change

    changed_still : is_changed key all ≡ true → (row : Kept) → unchanged (change ∷ all) row ≡ unchanged all row
    changed_still e row = by_key (int_eq row.key key) refl
      where
        by_key : (b : Bool) → int_eq row.key key ≡ b → not (b || is_changed row.key all) ≡ unchanged all row
        by_key true same = ap not (sym (ap (λ k. is_changed k all) (same_key row.key key same) ∙ e))
        by_key false same = refl

    by_test : (b : Bool) → is_changed key all ≡ b → length (staying all rows) + rows_gone rows all ≡ length rows → length (staying (change ∷ all) rows) + length (filter (λ key. has_key key rows) (keys_changed (if b then last_changes all else change ∷ last_changes all))) ≡ length rows
    by_test true e there =
        let same : length (staying (change ∷ all) rows) ≡ length (staying all rows) = ap (λ rows. length rows) (filter_same (unchanged (change ∷ all)) (unchanged all) (changed_still e) rows) in
        omega (arith, same, there)
    by_test false e there =
        let stays : (row : Kept) → int_eq row.key key ≡ true → unchanged all row ≡ true = λ row same. ap not (ap (λ k. is_changed k all) (same_key row.key key same) ∙ e) in
        let fewer = without_counts key (unchanged all) stays rows a in
        let same : length (passing key (unchanged all) rows) ≡ length (staying (change ∷ all) rows) = ap (λ rows. length rows) (passing_stays change all rows) in
        let head = count_cons (λ key. has_key key rows) key (keys_changed (last_changes all)) in
        omega (arith, fewer, same, head, there)

-- As many rows come as the changes leave, and so many go as they replace or remove.
pub count_after : ChangesKeepOrder → (all : List Change) (rows : List Kept) → Ascends rows → length (after_changes all rows) + rows_gone rows all ≡ length rows + length (rows_left all)
count_after order all rows a =
    let after = after_counts order all rows a in
    let gone = gone_counts all rows a in
    omega (arith, after, gone)
