-- Rows of one table that are put in their places or removed.
use Rattle.std.proofs.Common.{◌≡◌, ◌∙◌, ℤ, List, [], ◌∷◌, Bool, true, false, not, ◌||◌, refl, sym, ap, subst, map, filter, int_cmp, int_eq, Ordering, Less, Equal, Greater}
use Rattle.std.specs.List.{AllByRecursion as Each, list_all, list_any}
use Rattle.std.specs.Ordering.{match_ordering, ordering_reverse, is_eq}
use Rattle.std.proofs.lemmas.Cmp.{int_cmp_total, int_ranked}
use Rattle.sql_base.specs.Laws.{all_true, both}
use Rattle.row_rules.specs.declared.kinds.Change.{Change}
use Rattle.row_rules.specs.declared.kinds.Change.TheVariants.{Put, Remove}
use Rattle.row_rules.specs.declared.kinds.Kept.{Kept}
use Rattle.row_rules.specs.Accept.{has_key, keys_of}
use Rattle.row_rules.specs.Changes.{after_changes, put_row}
use Rattle.machine.specs.Sites.{OfPut}
use Rattle.machine.specs.Standing.{Ascends}
use Rattle.machine.proofs.Moving.{filter_each}

-- These rows with some more, each put in its place.
abbrev pub put_rows : List Kept → List Kept → List Kept
put_rows [] rows = rows
put_rows (row ∷ more) rows = put_rows more (put_row row rows)

pub after_puts : (new rows : List Kept) → after_changes (map Put new) rows ≡ put_rows new rows
after_puts [] rows = refl
after_puts (row ∷ new) rows = after_puts new (put_row row rows)

-- ---- keys in order

pub cmp_flips : (x y : ℤ) → int_cmp x y ≡ Greater → int_cmp y x ≡ Less
cmp_flips x y h = int_cmp_total.antisymm y x ∙ ap ordering_reverse h

pub cmp_same : (x y : ℤ) → int_cmp x y ≡ Equal → x ≡ y
cmp_same x y h = int_ranked x y Equal (sym h)

pub cmp_trans : (x y z : ℤ) → int_cmp x y ≡ Less → int_cmp y z ≡ Less → int_cmp x z ≡ Less
cmp_trans x y z = int_cmp_total.trans x y z

-- The first of these rows, if there is one, has a greater key.
abbrev pub Above : ℤ → List Kept → Type 0
Above key [] = Unit {0}
Above key (row ∷ rows) = int_cmp key row.key ≡ Less

pub ascends_join : (row : Kept) (rows : List Kept) → Above row.key rows → Ascends rows → Ascends (row ∷ rows)
ascends_join row [] a h = tt
ascends_join row (next ∷ rows) a h = (a, h)

pub ascends_above : (row : Kept) (rows : List Kept) → Ascends (row ∷ rows) → Above row.key rows
ascends_above row [] h = tt
ascends_above row (next ∷ rows) h = h.0

pub ascends_rest : (row : Kept) (rows : List Kept) → Ascends (row ∷ rows) → Ascends rows
ascends_rest row [] h = tt
ascends_rest row (next ∷ rows) h = h.1

pub above_less : (key other : ℤ) (rows : List Kept) → int_cmp key other ≡ Less → Above other rows → Above key rows
above_less key other [] h a = tt
above_less key other (row ∷ rows) h a = cmp_trans key other row.key h a

-- ---- one row put in its place

pub put_above : (key : ℤ) (row : Kept) (rows : List Kept) → int_cmp key row.key ≡ Less → Above key rows → Above key (put_row row rows)
put_above key row [] h a = h
put_above key row (first ∷ rows) h a = by_order (int_cmp row.key first.key)
  where
    by_order : (o : Ordering) → Above key (match_ordering o (row ∷ first ∷ rows) (row ∷ rows) (first ∷ put_row row rows))
    by_order Less = h
    by_order Equal = h
    by_order Greater = a

pub put_ascends : (row : Kept) (rows : List Kept) → Ascends rows → Ascends (put_row row rows)
put_ascends row [] h = tt
put_ascends row (first ∷ rows) h = by_order (put_ascends row rows (ascends_rest first rows h)) (int_cmp row.key first.key) refl
  where
    by_order : Ascends (put_row row rows) → (o : Ordering) → int_cmp row.key first.key ≡ o → Ascends (match_ordering o (row ∷ first ∷ rows) (row ∷ rows) (first ∷ put_row row rows))
    by_order there Less e = (e, h)
    by_order there Equal e = ascends_join row rows (subst (λ key. Above key rows) (sym (cmp_same row.key first.key e)) (ascends_above first rows h)) (ascends_rest first rows h)
    by_order there Greater e = ascends_join first (put_row row rows) (put_above first.key row rows (cmp_flips row.key first.key e) (ascends_above first rows h)) there

pub put_each : (P : Kept → Type 0) (row : Kept) (rows : List Kept) → P row → Each P rows → Each P (put_row row rows)
put_each P row [] r h = (r, tt)
put_each P row (first ∷ rows) r h = by_order (put_each P row rows r h.1) (int_cmp row.key first.key)
  where
    by_order : Each P (put_row row rows) → (o : Ordering) → Each P (match_ordering o (row ∷ first ∷ rows) (row ∷ rows) (first ∷ put_row row rows))
    by_order there Less = (r, h)
    by_order there Equal = (r, h.1)
    by_order there Greater = (h.0, there)

-- ---- rows after changes

-- What holds of each row, and of each that is put, holds afterwards.
pub changed_each : (P : Kept → Type 0) (all : List Change) (rows : List Kept) → Each (OfPut P) all → Each P rows → Each P (after_changes all rows)
changed_each P [] rows c h = h
changed_each P (Put row ∷ all) rows c h = changed_each P all (put_row row rows) c.1 (put_each P row rows c.0 h)
changed_each P (Remove key ∷ all) rows c h = changed_each P all (filter (λ row. not (int_eq row.key key)) rows) c.1 (filter_each (λ row. not (int_eq row.key key)) P rows h)

-- ---- lengths and keys

pub neither : (a b : Bool) → (a || b) ≡ false → (a ≡ false) × (b ≡ false)
neither true b h = cc
neither false b h = (refl, h)

-- a key less than all of these is none of them
pub above_fresh : (key : ℤ) (rows : List Kept) → Above key rows → Ascends rows → has_key key rows ≡ false
above_fresh key [] a h = refl
above_fresh key (row ∷ rows) a h =
    let here : int_eq key row.key ≡ false = ap is_eq a in
    let there = above_fresh key rows (above_less key row.key rows a (ascends_above row rows h)) (ascends_rest row rows h) in
    ap (λ b. b || has_key key rows) here ∙ there

-- a key that is there already leaves the keys as they are
pub put_known_keys : (row : Kept) (rows : List Kept) → Ascends rows → has_key row.key rows ≡ true → keys_of (put_row row rows) ≡ keys_of rows
put_known_keys row [] a h = cc
put_known_keys row (first ∷ rows) a h = by_order (put_known_keys row rows (ascends_rest first rows a)) (int_cmp row.key first.key) refl
  where
    by_order : (has_key row.key rows ≡ true → keys_of (put_row row rows) ≡ keys_of rows) → (o : Ordering) → int_cmp row.key first.key ≡ o → keys_of (match_ordering o (row ∷ first ∷ rows) (row ∷ rows) (first ∷ put_row row rows)) ≡ keys_of (first ∷ rows)
    by_order there Less e =
        let fresh : has_key row.key (first ∷ rows) ≡ false = above_fresh row.key (first ∷ rows) e a in
        cc
    by_order there Equal e = ap (λ key. key ∷ keys_of rows) (cmp_same row.key first.key e)
    by_order there Greater e =
        let differ : int_eq row.key first.key ≡ false = ap is_eq e in
        let known : has_key row.key rows ≡ true = ap (λ b. b || has_key row.key rows) (sym differ) ∙ h in
        ap (λ keys. first.key ∷ keys) (there known)

-- whether a row has a key, by the keys alone
pub has_key_by_keys : (key : ℤ) (rows : List Kept) → has_key key rows ≡ list_any (int_eq key) (keys_of rows)
has_key_by_keys key [] = refl
has_key_by_keys key (row ∷ rows) = ap (λ b. int_eq key row.key || b) (has_key_by_keys key rows)

known_still : (new rows others : List Kept) → keys_of others ≡ keys_of rows → list_all (λ row. has_key row.key rows) new ≡ true → list_all (λ row. has_key row.key others) new ≡ true
known_still [] rows others e h = refl
known_still (row ∷ new) rows others e h =
    let parts = both (has_key row.key rows) (list_all (λ row. has_key row.key rows) new) h in
    all_true (has_key row.key others) (list_all (λ row. has_key row.key others) new) (has_key_by_keys row.key others ∙ ap (list_any (int_eq row.key)) e ∙ sym (has_key_by_keys row.key rows) ∙ parts.0) (known_still new rows others e parts.1)

pub put_rows_known_keys : (new rows : List Kept) → Ascends rows → list_all (λ row. has_key row.key rows) new ≡ true → keys_of (put_rows new rows) ≡ keys_of rows
put_rows_known_keys [] rows a h = refl
put_rows_known_keys (row ∷ new) rows a h =
    let parts = both (has_key row.key rows) (list_all (λ row. has_key row.key rows) new) h in
    let here = put_known_keys row rows a parts.0 in
    put_rows_known_keys new (put_row row rows) (put_ascends row rows a) (known_still new rows (put_row row rows) here parts.1) ∙ here
