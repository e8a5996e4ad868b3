-- The indexes of a side are those of the rows, before and after changes.
use Rattle.std.proofs.Common.{◌≡◌, ◌≤◌, ◌∙◌, ℕ, ℤ, List, [], ◌∷◌, ◌++◌, Bool, true, false, ◌&&◌, ◌||◌, cond, not, Option, Some, None, refl, ap, sym, map, subst, drop, length, append_assoc, append-nil, int_cmp, arith}
use Rattle.std.specs.Prelude.{is_some, nat_eq, slice_index_or}
use Rattle.std.specs.Cmp.Lexicographic.{pointwise}
use Rattle.std.proofs.lemmas.Slice.Eq.{bytes_eq-Decides}
use Rattle.sql_base.specs.declared.values.Value.TheVariants.{Null}
use Rattle.std.specs.FinMap as finite
use Rattle.std.specs.List.{cons_option, filter, list_any}
use Rattle.std.specs.Map.{keys_of}
use Rattle.std.specs.Option.{option_map, option_map_or}
use Rattle.std.proofs.lemmas.List.{drop_all, length-map, nil_from_length}
use Rattle.sql_base.specs.declared.shapes.Unique.{Unique}
use Rattle.sql_base.specs.declared.values.Value.{Value}
use Rattle.sql_base.specs.Laws.{some_same}
use Rattle.sql_eval.specs.Row.{all_alike, least, values_of}
use Rattle.mig_lens.specs.declared.columns.Side.{Side}
use Rattle.uniq_index.specs.Indexed.{Entries, is_among}
use Rattle.uniq_index.specs.Laws.{Indexes, PutIsIndexed, RemovedIsNotIndexed}
use Rattle.row_rules.specs.Accept.{other_alike, present}
use Rattle.row_rules.specs.Changes.{after_change, after_changes, put_row}
use Rattle.row_rules.specs.Laws.{ChangesKeepOrder}
use Rattle.row_rules.specs.Rows.{Ascends}
use Rattle.row_rules.specs.Site.{half}
use Rattle.row_rules.specs.declared.kinds.Change.{Change}
use Rattle.row_rules.specs.declared.kinds.Change.TheVariants.{Put, Remove}
use Rattle.row_rules.specs.declared.kinds.Kept.{Kept}
use Rattle.row_index.specs.Changes.{index_change, index_changes, put_all, put_change, row_change}
use Rattle.row_index.specs.Indexes.{AreIndexed, entries_for, has_beside}
use Rattle.row_index.specs.Laws.{ChangesAreInIndex, ChangesAreIndexed, OthersAreThoseOfRows, PreparedHaveRoom}
use Rattle.row_index.specs.declared.changes.IndexChange.TheVariants as indexed
use Rattle.row_index.proofs.Present.{put_last, put_missing, put_present, removed_present}

-- ---- one index

module _ (put : PutIsIndexed) (removed : RemovedIsNotIndexed) (unique : Unique) (side : Side) where
  row_indexed : (row : Kept) (rows : List Kept) (entries : Entries) (h : Option (List Value)) → half side row.halves ≡ h
      → Ascends rows → Indexes unique (present side rows) entries
      → Indexes unique (present side (put_row row rows))
      (put_change (option_map_or (λ values. indexed.Put row.key (values_of unique values)) h (indexed.Remove row.key)) entries)
  row_indexed row rows entries None is ascend has =
      subst (λ seen. Indexes unique seen (finite.remove entries row.key)) (sym (put_missing side row rows ascend is))
      (removed unique (present side rows) entries row.key has)
  row_indexed row rows entries (Some values) is ascend has =
      subst (λ seen. Indexes unique seen (finite.insert entries row.key (values_of unique values)))
      (sym (put_present side row values rows ascend is)) (put unique (present side rows) entries row.key values has)

  one_indexed : (change : Change) (rows : List Kept) (entries : Entries) → Ascends rows
      → Indexes unique (present side rows) entries
      → Indexes unique (present side (after_change change rows)) (put_change (index_change unique side change) entries)
  one_indexed (Put row) rows entries ascend has = row_indexed row rows entries (half side row.halves) refl ascend has
  one_indexed (Remove key) rows entries ascend has =
      subst (λ seen. Indexes unique seen (finite.remove entries key)) (sym (removed_present side key rows))
      (removed unique (present side rows) entries key has)

pub changes_in_index : PutIsIndexed → RemovedIsNotIndexed → ChangesKeepOrder → ChangesAreInIndex
changes_in_index put removed order unique side [] rows entries ascend has = has
changes_in_index put removed order unique side (change ∷ changes) rows entries ascend has =
    changes_in_index put removed order unique side changes (after_change change rows)
    (put_change (index_change unique side change) entries) (order (change ∷ []) rows ascend)
    (one_indexed put removed unique side change rows entries ascend has)

-- ---- rows one after another

none_there : finite.entries {X = List Value} {R = int_cmp} finite.empty ≡ []
none_there =
    nil_from_length (finite.entries {X = List Value} {R = int_cmp} finite.empty)
    (sym (finite.len-entries finite.empty) ∙ finite.len-empty int_cmp (List Value))

-- Rows that ascend, put one after another, are those rows.
rows_put : (before rest : List Kept) → Ascends (before ++ rest) → after_changes (map Put rest) before ≡ before ++ rest
rows_put before [] ascend = sym (append-nil before)
rows_put before (row ∷ rest) ascend =
    let longer : (before ++ row ∷ []) ++ rest ≡ before ++ row ∷ rest = append_assoc before (row ∷ []) rest in
    ap (after_changes (map Put rest)) (put_last before row rest ascend)
    ∙ rows_put (before ++ row ∷ []) rest (subst Ascends (sym longer) ascend) ∙ longer

row_changes : (unique : Unique) (side : Side) (rows : List Kept)
    → index_changes side (map Put rows) unique ≡ map (row_change unique side) rows
row_changes unique side [] = refl
row_changes unique side (row ∷ rows) =
    ap (λ changes. row_change unique side row ∷ changes) (row_changes unique side rows)

pub rows_indexed : ChangesAreInIndex → (unique : Unique) (side : Side) (rows : List Kept) → Ascends rows
    → Indexes unique (present side rows) (put_all (map (row_change unique side) rows) finite.empty)
rows_indexed one unique side rows ascend =
    subst (λ rows. Indexes unique (present side rows) (put_all (map (row_change unique side) rows) finite.empty))
    (rows_put [] rows ascend)
    (subst (λ changes. Indexes unique (present side (after_changes (map Put rows) [])) (put_all changes finite.empty)) (row_changes unique side rows ∙ ap (map (row_change unique side)) (sym (rows_put [] rows ascend)))
    (one unique side (map Put rows) [] finite.empty tt none_there))

-- ---- all indexes of a side

pub changes_indexed : ChangesAreInIndex → ChangesAreIndexed
changes_indexed one [] side changes rows [] ascend have = tt
changes_indexed one [] side changes rows (entries ∷ all) ascend have = absurd have
changes_indexed one (unique ∷ uniques) side changes rows [] ascend have = absurd have
changes_indexed one (unique ∷ uniques) side changes rows (entries ∷ all) ascend have =
    (one unique side changes rows entries ascend have.0, changes_indexed one uniques side changes rows all ascend have.1)

-- What rows have in the columns of a unique constraint.
abbrev pub entries_over : List (ℤ × List Value) → Unique → List (ℤ × List Value)
entries_over rows unique = map (λ row. (row.0, values_of unique row.1)) rows

-- Where their entries are those of the rows, there is an index for each.
from_same : (uniques : List Unique) (rows : List (ℤ × List Value)) (all : List Entries)
    → map finite.entries all ≡ map (entries_over rows) uniques → AreIndexed uniques rows all
from_same [] rows [] h = tt
from_same [] rows (entries ∷ all) h = absurd (cc)
from_same (unique ∷ uniques) rows [] h = absurd (cc)
from_same (unique ∷ uniques) rows (entries ∷ all) h = (cc, from_same uniques rows all cc)

-- So it is where no constraint is left.
pub all_indexed : (uniques : List Unique) (rows : List (ℤ × List Value)) (all : List Entries) (at : ℕ)
    → length uniques ≤ at
    → map finite.entries all ++ map (entries_over rows) (drop at uniques) ≡ map (entries_over rows) uniques
    → AreIndexed uniques rows all
all_indexed uniques rows all at past h =
    let done : map finite.entries all ++ map (entries_over rows) (drop at uniques) ≡ map finite.entries all =
    ap (λ left. map finite.entries all ++ map (entries_over rows) left) (drop_all at uniques past)
    ∙ append-nil (map finite.entries all) in
    from_same uniques rows all (sym done ∙ h)

pub have_room : PreparedHaveRoom
have_room [] side changes rows [] n have room few = tt
have_room [] side changes rows (index ∷ indexes) n have room few = absurd have
have_room (unique ∷ uniques) side changes rows [] n have room few = absurd have
have_room (unique ∷ uniques) side changes rows (index ∷ indexes) n have room few =
    let enough = room.0 in
    (omega (arith, length-map changes (index_change unique side), enough, few), have_room uniques side changes rows indexes n have.1 room.1 few)

-- ---- what other rows have

module _ (unique : Unique) (side : Side) (values : List Value) (keys : List ℤ) where
  abbrev passes : ℤ × List Value → Bool
  passes entry = not (is_among entry.0 keys) && all_alike (values_of unique values) entry.1

  abbrev entries_at : List Kept → List (ℤ × List Value)
  entries_at rows = map (λ row. (row.0, values_of unique row.1)) (present side rows)

  others_of_rows : (rows : List Kept)
      → is_some (least (keys_of (filter passes (entries_at rows))))
      ≡ list_any (other_alike unique side values keys) rows
  others_of_rows [] = refl
  others_of_rows (row ∷ rows) = by_half (half side row.halves) (others_of_rows rows)
    where
      by_test : (entry : ℤ × List Value) (b : Bool)
          → is_some (least (keys_of (filter passes (entries_at rows))))
          ≡ list_any (other_alike unique side values keys) rows
          → is_some (least (keys_of (cond b (entry ∷ filter passes (entries_at rows)) (filter passes (entries_at rows))))) ≡ (b || list_any (other_alike unique side values keys) rows)
      by_test entry true later = refl
      by_test entry false later = later

      by_half : (h : Option (List Value))
          → is_some (least (keys_of (filter passes (entries_at rows))))
          ≡ list_any (other_alike unique side values keys) rows
          → is_some (least (keys_of (filter passes (map (λ r. (r.0, values_of unique r.1)) (cons_option (option_map (λ v. (row.key, v)) h) (present side rows))))))
          ≡ (option_map_or (λ others. not (is_among row.key keys) && all_alike (values_of unique values) (values_of unique others)) h false || list_any (other_alike unique side values keys) rows)
      by_half None later = later
      by_half (Some others) later =
          by_test (row.key, values_of unique others)
          (not (is_among row.key keys) && all_alike (values_of unique values) (values_of unique others)) later

  others_in_index : (rows : List Kept) (entries : Entries) → Indexes unique (present side rows) entries
      → has_beside unique values keys entries ≡ list_any (other_alike unique side values keys) rows
  others_in_index rows entries has = ap (λ es. is_some (least (keys_of (filter passes es)))) has ∙ others_of_rows rows

-- Constraints of the same columns have the same values of a row.
same_indexed : (unique other : Unique) (rows : List (ℤ × List Value)) (entries : Entries) → other.columns ≡ unique.columns
    → Indexes other rows entries → Indexes unique rows entries
same_indexed unique other rows entries same has =
    has ∙ ap (λ (columns : List ℕ). map (λ row. (row.0, map (λ at. slice_index_or row.1 at Null) columns)) rows) same

pub others_are_those_of_rows : OthersAreThoseOfRows
others_are_those_of_rows unique side rows [] all entries values keys have there = absurd (cc)
others_are_those_of_rows unique side rows (first ∷ uniques) [] entries values keys have there = absurd (cc)
others_are_those_of_rows unique side rows (first ∷ uniques) (index ∷ all) entries values keys have there =
    by_columns (pointwise nat_eq first.columns unique.columns) refl there
    (others_are_those_of_rows unique side rows uniques all entries values keys have.1)
  where
    Answers : Type 0
    Answers = has_beside unique values keys entries ≡ list_any (other_alike unique side values keys) rows

    by_columns : (b : Bool) → pointwise nat_eq first.columns unique.columns ≡ b
        → cond b (Some index) (entries_for unique uniques all) ≡ Some entries
        → (entries_for unique uniques all ≡ Some entries → Answers) → Answers
    by_columns true is found later =
        others_in_index unique side values keys rows entries
        (subst (Indexes unique (present side rows)) (some_same index entries found)
        (same_indexed unique first (present side rows) index ((bytes_eq-Decides first.columns unique.columns).0 is) have.0))
    by_columns false is found later = later found
