-- The halves of a side that rows have, where the rows are changed.
use Rattle.std.proofs.Common.{◌≡◌, ◌∙◌, ℤ, List, [], ◌∷◌, ◌++◌, Bool, true, false, ◌&&◌, cond, not, Option, Some, None, refl, ap, sym, subst, int_cmp, int_eq, Ordering, Less, Equal, Greater}
use Rattle.std.specs.FinMap as finite
use Rattle.std.specs.FinMap.Entries.{below_all, by_order}
use Rattle.std.specs.List.{cons_option, filter}
use Rattle.std.specs.Option.{option_map}
use Rattle.std.specs.Ordering.{is_eq, is_lt, match_ordering, ordering_reverse}
use Rattle.std.specs.Cmp.{int_eq_equiv}
use Rattle.std.proofs.lemmas.Cmp.{int_cmp_total, int_ranked}
use Rattle.sql_base.specs.declared.values.Value.{Value}
use Rattle.mig_lens.specs.declared.columns.Side.{Side}
use Rattle.row_rules.specs.Accept.{present}
use Rattle.row_rules.specs.Changes.{put_row}
use Rattle.row_rules.specs.Rows.{Ascends}
use Rattle.row_rules.specs.Site.{half}
use Rattle.row_rules.specs.declared.kinds.Kept.{Kept}

-- ---- entries above a key

put_front : (key : ℤ) (values : List Value) (entries : List (ℤ × List Value)) → below_all int_cmp key entries ≡ true
    → finite.put int_cmp key values entries ≡ (key, values) ∷ entries
put_front key values [] h = refl
put_front key values (entry ∷ entries) h = by_test (int_cmp key entry.0) h
  where
    by_test : (o : Ordering) → (is_lt o && below_all int_cmp key entries) ≡ true
        → by_order o ((key, values) ∷ entry ∷ entries) ((entry.0, values) ∷ entries)
        (entry ∷ finite.put int_cmp key values entries) ≡ (key, values) ∷ entry ∷ entries
    by_test Less h = refl
    by_test Equal h = absurd (cc)
    by_test Greater h = absurd (cc)

-- The entries but that of a key.
abbrev others : ℤ → List (ℤ × List Value) → List (ℤ × List Value)
others key entries = filter (λ entry. not (int_eq key entry.0)) entries

all_kept : (key : ℤ) (entries : List (ℤ × List Value)) → below_all int_cmp key entries ≡ true
    → others key entries ≡ entries
all_kept key [] h = refl
all_kept key (entry ∷ entries) h = by_test (int_cmp key entry.0) h (all_kept key entries)
  where
    by_test : (o : Ordering) → (is_lt o && below_all int_cmp key entries) ≡ true
        → (below_all int_cmp key entries ≡ true → others key entries ≡ entries)
        → cond (not (is_eq o)) (entry ∷ others key entries) (others key entries) ≡ entry ∷ entries
    by_test Less h rest = ap (λ es. entry ∷ es) (rest h)
    by_test Equal h rest = absurd (cc)
    by_test Greater h rest = absurd (cc)

-- ---- rows that ascend

ascends_rest : (row : Kept) (rows : List Kept) → Ascends (row ∷ rows) → Ascends rows
ascends_rest row [] h = tt
ascends_rest row (next ∷ rows) h = h.1

same_key : (x y : ℤ) → int_cmp x y ≡ Equal → x ≡ y
same_key x y e = int_ranked x y Equal (sym e)

module _ (side : Side) where
  -- A row's entry, where it has a half, before those of other rows.
  abbrev seen : ℤ → Option (List Value) → List (ℤ × List Value) → List (ℤ × List Value)
  seen key h entries = cons_option (option_map (λ values. (key, values)) h) entries

  above : (key : ℤ) (row : Kept) (rows : List Kept) → int_cmp key row.key ≡ Less → Ascends (row ∷ rows)
      → below_all int_cmp key (present side (row ∷ rows)) ≡ true
  above key row [] less h = by_half (half side row.halves)
    where
      by_half : (h : Option (List Value)) → below_all int_cmp key (seen row.key h []) ≡ true
      by_half None = refl
      by_half (Some values) = ap (λ o. is_lt o && true) less
  above key row (next ∷ rows) less h =
      by_half (half side row.halves) (above key next rows (int_cmp_total.trans key row.key next.key less h.0) h.1)
    where
      by_half : (h : Option (List Value)) → below_all int_cmp key (present side (next ∷ rows)) ≡ true
          → below_all int_cmp key (seen row.key h (present side (next ∷ rows))) ≡ true
      by_half None rest = rest
      by_half (Some values) rest = ap (λ o. is_lt o && below_all int_cmp key (present side (next ∷ rows))) less ∙ rest

  all_above : (row : Kept) (rows : List Kept) → Ascends (row ∷ rows)
      → below_all int_cmp row.key (present side rows) ≡ true
  all_above row [] h = refl
  all_above row (next ∷ rows) h = above row.key next rows h.0 h.1

  -- ---- a row that is put, before or behind a first one or in its place

  one_put : (key first : ℤ) (values : List Value) (h : Option (List Value)) (entries later : List (ℤ × List Value))
      (o : Ordering) → int_cmp key first ≡ o
      → (o ≡ Less → below_all int_cmp key (seen first h entries) ≡ true) → below_all int_cmp first entries ≡ true
      → later ≡ finite.put int_cmp key values entries
      → match_ordering o ((key, values) ∷ seen first h entries) ((key, values) ∷ entries) (seen first h later)
      ≡ finite.put int_cmp key values (seen first h entries)
  one_put key first values h entries later Less e front behind then =
      sym (put_front key values (seen first h entries) (front refl))
  one_put key first values None entries later Equal e front behind then =
      sym (put_front key values entries (subst (λ k. below_all int_cmp k entries ≡ true) (sym (same_key key first e)) behind))
  one_put key first values (Some old) entries later Equal e front behind then =
      ap (λ k. (k, values) ∷ entries) (same_key key first e)
      ∙ sym (ap (λ o. by_order o ((key, values) ∷ (first, old) ∷ entries) ((first, values) ∷ entries) ((first, old) ∷ finite.put int_cmp key values entries)) e)
  one_put key first values None entries later Greater e front behind then = then
  one_put key first values (Some old) entries later Greater e front behind then =
      ap (λ es. (first, old) ∷ es) then
      ∙ sym (ap (λ o. by_order o ((key, values) ∷ (first, old) ∷ entries) ((first, values) ∷ entries) ((first, old) ∷ finite.put int_cmp key values entries)) e)

  pub put_present : (row : Kept) (values : List Value) (rows : List Kept) → Ascends rows
      → half side row.halves ≡ Some values
      → present side (put_row row rows) ≡ finite.put int_cmp row.key values (present side rows)
  put_present row values [] h is = ap (λ half. seen row.key half []) is
  put_present row values (first ∷ rows) h is =
      moved (int_cmp row.key first.key)
      ∙ one_put row.key first.key values (half side first.halves) (present side rows) (present side (put_row row rows))
      (int_cmp row.key first.key) refl (λ less. above row.key first rows less h) (all_above first rows h)
      (put_present row values rows (ascends_rest first rows h) is)
    where
      moved : (o : Ordering)
          → present side (match_ordering o (row ∷ first ∷ rows) (row ∷ rows) (first ∷ put_row row rows))
          ≡ match_ordering o ((row.key, values) ∷ present side (first ∷ rows)) ((row.key, values) ∷ present side rows)
          (seen first.key (half side first.halves) (present side (put_row row rows)))
      moved Less = ap (λ half. seen row.key half (present side (first ∷ rows))) is
      moved Equal = ap (λ half. seen row.key half (present side rows)) is
      moved Greater = refl

  -- ---- a row without a half that is put

  one_missing : (key first : ℤ) (h : Option (List Value)) (entries later : List (ℤ × List Value)) (o : Ordering)
      → int_cmp key first ≡ o
      → (o ≡ Less → below_all int_cmp key (seen first h entries) ≡ true) → below_all int_cmp first entries ≡ true
      → later ≡ others key entries
      → match_ordering o (seen first h entries) entries (seen first h later) ≡ others key (seen first h entries)
  one_missing key first h entries later Less e front behind then =
      sym (all_kept key (seen first h entries) (front refl))
  one_missing key first None entries later Equal e front behind then =
      sym (all_kept key entries (subst (λ k. below_all int_cmp k entries ≡ true) (sym (same_key key first e)) behind))
  one_missing key first (Some old) entries later Equal e front behind then =
      sym (ap (λ o. cond (not (is_eq o)) ((first, old) ∷ others key entries) (others key entries)) e
      ∙ all_kept key entries (subst (λ k. below_all int_cmp k entries ≡ true) (sym (same_key key first e)) behind))
  one_missing key first None entries later Greater e front behind then = then
  one_missing key first (Some old) entries later Greater e front behind then =
      ap (λ es. (first, old) ∷ es) then
      ∙ sym (ap (λ o. cond (not (is_eq o)) ((first, old) ∷ others key entries) (others key entries)) e)

  pub put_missing : (row : Kept) (rows : List Kept) → Ascends rows → half side row.halves ≡ None
      → present side (put_row row rows) ≡ others row.key (present side rows)
  put_missing row [] h is = ap (λ half. seen row.key half []) is
  put_missing row (first ∷ rows) h is =
      moved (int_cmp row.key first.key)
      ∙ one_missing row.key first.key (half side first.halves) (present side rows) (present side (put_row row rows))
      (int_cmp row.key first.key) refl (λ less. above row.key first rows less h) (all_above first rows h)
      (put_missing row rows (ascends_rest first rows h) is)
    where
      moved : (o : Ordering)
          → present side (match_ordering o (row ∷ first ∷ rows) (row ∷ rows) (first ∷ put_row row rows))
          ≡ match_ordering o (present side (first ∷ rows)) (present side rows)
          (seen first.key (half side first.halves) (present side (put_row row rows)))
      moved Less = ap (λ half. seen row.key half (present side (first ∷ rows))) is
      moved Equal = ap (λ half. seen row.key half (present side rows)) is
      moved Greater = refl

  -- ---- a row that is removed

  one_removed : (key other : ℤ) (h : Option (List Value)) (entries left : List (ℤ × List Value)) (b : Bool)
      → int_eq key other ≡ b → left ≡ others key entries
      → cond (not b) (seen other h left) left ≡ others key (seen other h entries)
  one_removed key other None entries left true e then = then
  one_removed key other None entries left false e then = then
  one_removed key other (Some old) entries left true e then =
      then ∙ sym (ap (λ b. cond (not b) ((other, old) ∷ others key entries) (others key entries)) e)
  one_removed key other (Some old) entries left false e then =
      ap (λ es. (other, old) ∷ es) then
      ∙ sym (ap (λ b. cond (not b) ((other, old) ∷ others key entries) (others key entries)) e)

  pub removed_present : (key : ℤ) (rows : List Kept)
      → present side (filter (λ row. not (int_eq row.key key)) rows) ≡ others key (present side rows)
  removed_present key [] = refl
  removed_present key (row ∷ rows) =
      let left = filter (λ row. not (int_eq row.key key)) rows in
      moved (int_eq row.key key)
      ∙ one_removed key row.key (half side row.halves) (present side rows) (present side left) (int_eq row.key key)
      (int_eq_equiv.symm key row.key) (removed_present key rows)
    where
      moved : (b : Bool)
          → present side (cond (not b) (row ∷ filter (λ row. not (int_eq row.key key)) rows) (filter (λ row. not (int_eq row.key key)) rows))
          ≡ cond (not b) (seen row.key (half side row.halves) (present side (filter (λ row. not (int_eq row.key key)) rows))) (present side (filter (λ row. not (int_eq row.key key)) rows))
      moved true = refl
      moved false = refl

-- ---- rows one after another

first_less : (first : Kept) (before : List Kept) (row : Kept) (rest : List Kept)
    → Ascends (first ∷ before ++ row ∷ rest) → int_cmp first.key row.key ≡ Less
first_less first [] row rest h = h.0
first_less first (next ∷ before) row rest h =
    int_cmp_total.trans first.key next.key row.key h.0 (first_less next before row rest h.1)

-- A row whose key is above all others comes last.
pub put_last : (before : List Kept) (row : Kept) (rest : List Kept) → Ascends (before ++ row ∷ rest)
    → put_row row before ≡ before ++ row ∷ []
put_last [] row rest h = refl
put_last (first ∷ before) row rest h =
    let flipped : int_cmp row.key first.key ≡ Greater =
    int_cmp_total.antisymm row.key first.key ∙ ap ordering_reverse (first_less first before row rest h) in
    ap (λ o. match_ordering o (row ∷ first ∷ before) (row ∷ before) (first ∷ put_row row before)) flipped
    ∙ ap (λ rows. first ∷ rows) (put_last before row rest (ascends_rest first (before ++ row ∷ rest) h))
