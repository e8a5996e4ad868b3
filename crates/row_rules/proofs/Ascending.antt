-- Rows in ascending key, and changes to them.
use Rattle.std.proofs.Common.{◌≡◌, ℤ, List, [], ◌∷◌, Bool, true, false, cond, not, refl, ◌∙◌, sym, ap, subst, int_cmp, int_eq, Ordering, Less, Equal, Greater}
use Rattle.std.specs.List.{filter}
use Rattle.std.specs.Ordering.{match_ordering, ordering_reverse}
use Rattle.std.proofs.lemmas.Cmp.{int_cmp_total, int_ranked}
use Rattle.row_rules.specs.Changes.{after_change, after_changes, put_row}
use Rattle.row_rules.specs.Rows.{Ascends}
use Rattle.row_rules.specs.Words.{Change, Kept, Put, Remove}

-- ---- keys in order

pub cmp_flips : (x y : ℤ) → int_cmp x y ≡ Greater → int_cmp y x ≡ Less
cmp_flips x y h = int_cmp_total.antisymm y x ∙ ap ordering_reverse h

pub cmp_same : (x y : ℤ) → int_cmp x y ≡ Equal → x ≡ y
cmp_same x y h = int_ranked x y Equal (sym h)

-- The first of these rows, if there is one, has a greater key.
abbrev pub Above : ℤ → List Kept → Type 0
Above key [] = Unit {0}
Above key (row ∷ rows) = int_cmp key row.key ≡ Less

pub ascends_join : (row : Kept) (rows : List Kept) → Above row.key rows → Ascends rows → Ascends (row ∷ rows)
ascends_join row [] a h = tt
ascends_join row (next ∷ rows) a h = (a, h)

pub ascends_above : (row : Kept) (rows : List Kept) → Ascends (row ∷ rows) → Above row.key rows
ascends_above row [] h = tt
ascends_above row (next ∷ rows) h = h.0

pub ascends_rest : (row : Kept) (rows : List Kept) → Ascends (row ∷ rows) → Ascends rows
ascends_rest row [] h = tt
ascends_rest row (next ∷ rows) h = h.1

pub above_less : (key other : ℤ) (rows : List Kept) → int_cmp key other ≡ Less → Above other rows → Above key rows
above_less key other [] h a = tt
above_less key other (row ∷ rows) h a = int_cmp_total.trans key other row.key h a

-- ---- a row that is put

put_above : (key : ℤ) (row : Kept) (rows : List Kept) → int_cmp key row.key ≡ Less → Above key rows → Above key (put_row row rows)
put_above key row [] h a = h
put_above key row (first ∷ rows) h a = by_order (int_cmp row.key first.key)
  where
    by_order : (o : Ordering) → Above key (match_ordering o (row ∷ first ∷ rows) (row ∷ rows) (first ∷ put_row row rows))
    by_order Less = h
    by_order Equal = h
    by_order Greater = a

put_ascends : (row : Kept) (rows : List Kept) → Ascends rows → Ascends (put_row row rows)
put_ascends row [] h = tt
put_ascends row (first ∷ rows) h = by_order (put_ascends row rows (ascends_rest first rows h)) (int_cmp row.key first.key) refl
  where
    by_order : Ascends (put_row row rows) → (o : Ordering) → int_cmp row.key first.key ≡ o → Ascends (match_ordering o (row ∷ first ∷ rows) (row ∷ rows) (first ∷ put_row row rows))
    by_order there Less e = (e, h)
    by_order there Equal e = ascends_join row rows (subst (λ key. Above key rows) (sym (cmp_same row.key first.key e)) (ascends_above first rows h)) (ascends_rest first rows h)
    by_order there Greater e = ascends_join first (put_row row rows) (put_above first.key row rows (cmp_flips row.key first.key e) (ascends_above first rows h)) there

-- ---- rows that are removed

filter_above : (p : Kept → Bool) (key : ℤ) (rows : List Kept) → Ascends rows → Above key rows → Above key (filter p rows)
filter_above p key [] h a = tt
filter_above p key (row ∷ rows) h a = by_test (filter_above p key rows (ascends_rest row rows h) (above_less key row.key rows a (ascends_above row rows h))) (p row)
  where
    by_test : Above key (filter p rows) → (b : Bool) → Above key (cond b (row ∷ filter p rows) (filter p rows))
    by_test there true = a
    by_test there false = there

filter_ascends : (p : Kept → Bool) (rows : List Kept) → Ascends rows → Ascends (filter p rows)
filter_ascends p [] h = tt
filter_ascends p (row ∷ rows) h = by_test (filter_ascends p rows (ascends_rest row rows h)) (p row)
  where
    by_test : Ascends (filter p rows) → (b : Bool) → Ascends (cond b (row ∷ filter p rows) (filter p rows))
    by_test there true = ascends_join row (filter p rows) (filter_above p row.key rows (ascends_rest row rows h) (ascends_above row rows h)) there
    by_test there false = there

-- ---- changes

pub change_ascends : (change : Change) (rows : List Kept) → Ascends rows → Ascends (after_change change rows)
change_ascends (Put row) rows h = put_ascends row rows h
change_ascends (Remove key) rows h = filter_ascends (λ row. not (int_eq row.key key)) rows h

pub changes_ascend : (changes : List Change) (rows : List Kept) → Ascends rows → Ascends (after_changes changes rows)
changes_ascend [] rows h = h
changes_ascend (change ∷ changes) rows h = changes_ascend changes (after_change change rows) (change_ascends change rows h)
