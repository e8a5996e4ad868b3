-- The laws of an index of values.
use Rattle.std.proofs.Common.{◌≡◌, ◌∙◌, ℤ, List, [], ◌∷◌, Bool, true, false, ◌&&◌, ◌||◌, cond, not, Option, Some, None, refl, ap, sym, map, int_cmp, int_eq, Ordering, Less, Equal, Greater}
use Rattle.std.specs.FinMap as finite
use Rattle.std.specs.FinMap.Entries.{by_order}
use Rattle.std.specs.List.{filter, list_any}
use Rattle.std.specs.Map.{keys_of}
use Rattle.std.proofs.lemmas.Cmp.{int_cmp_total}
use Rattle.sql_base.specs.declared.shapes.Unique.{Unique}
use Rattle.sql_base.specs.declared.values.Value.{Value}
use Rattle.sql_base.specs.declared.values.Value.TheVariants.{Null, Int, Text, Bool as Truth}
use Rattle.sql_base.specs.Laws.{and_false}
use Rattle.sql_eval.specs.Row.{all_alike, least, least_clash, values_of}
use Rattle.sql_eval.specs.Value.{alike, is_null}
use Rattle.row_store.specs.Laws.{RemovedIsLeftOut}
use Rattle.uniq_index.specs.Indexed.{is_among}
use Rattle.uniq_index.specs.Laws.{ClashesAreThoseOfRows, NullsClashBesideNone, NullsClashWithNone, PutIsIndexed, RemovedIsNotIndexed}

pub clashes_are_those_of_rows : ClashesAreThoseOfRows
clashes_are_those_of_rows unique rows entries key row indexed found =
    ap (λ es. least_clash (values_of unique row) es key) indexed
    ∙ sym (ap (λ (o : Option (List Value)). elim o [ None ↦ None | Some row ↦ least_clash (values_of unique row) (map (λ r. (r.0, values_of unique r.1)) rows) key ]) found)

-- ---- changes

module _ (unique : Unique) where
  abbrev entry_of : ℤ × List Value → ℤ × List Value
  entry_of row = (row.0, values_of unique row.1)

  put_mapped : (key : ℤ) (row : List Value) (rows : List (ℤ × List Value)) → finite.put int_cmp key (values_of unique row) (map entry_of rows) ≡ map entry_of (finite.put int_cmp key row rows)
  put_mapped key row [] = refl
  put_mapped key row (first ∷ rows) = by_cases (int_cmp key first.0) (put_mapped key row rows)
    where
      by_cases : (o : Ordering) → finite.put int_cmp key (values_of unique row) (map entry_of rows) ≡ map entry_of (finite.put int_cmp key row rows)
          → by_order o ((key, values_of unique row) ∷ entry_of first ∷ map entry_of rows) ((first.0, values_of unique row) ∷ map entry_of rows) (entry_of first ∷ finite.put int_cmp key (values_of unique row) (map entry_of rows))
          ≡ map entry_of (by_order o ((key, row) ∷ first ∷ rows) ((first.0, row) ∷ rows) (first ∷ finite.put int_cmp key row rows))
      by_cases Less later = refl
      by_cases Equal later = refl
      by_cases Greater later = ap (λ entries. entry_of first ∷ entries) later

  removed_mapped : (key : ℤ) (rows : List (ℤ × List Value)) → filter (λ entry. not (int_eq key entry.0)) (map entry_of rows) ≡ map entry_of (filter (λ row. not (int_eq key row.0)) rows)
  removed_mapped key [] = refl
  removed_mapped key (first ∷ rows) = by_test (not (int_eq key first.0)) (removed_mapped key rows)
    where
      by_test : (b : Bool) → filter (λ entry. not (int_eq key entry.0)) (map entry_of rows) ≡ map entry_of (filter (λ row. not (int_eq key row.0)) rows)
          → cond b (entry_of first ∷ filter (λ entry. not (int_eq key entry.0)) (map entry_of rows)) (filter (λ entry. not (int_eq key entry.0)) (map entry_of rows))
          ≡ map entry_of (cond b (first ∷ filter (λ row. not (int_eq key row.0)) rows) (filter (λ row. not (int_eq key row.0)) rows))
      by_test true later = ap (λ entries. entry_of first ∷ entries) later
      by_test false later = later

pub put_is_indexed : PutIsIndexed
put_is_indexed unique rows entries key row indexed =
    finite.entries-insert int_cmp_total entries key (values_of unique row) ∙ ap (finite.put int_cmp key (values_of unique row)) indexed ∙ put_mapped unique key row rows

pub removed_is_not_indexed : RemovedIsLeftOut → RemovedIsNotIndexed
removed_is_not_indexed left_out unique rows entries key indexed =
    left_out entries key ∙ ap (filter (λ entry. not (int_eq key entry.0))) indexed ∙ removed_mapped unique key rows

-- ---- NULL

null_unlike : (x y : Value) → is_null x ≡ true → alike x y ≡ false
null_unlike Null Null h = refl
null_unlike Null (Int n) h = refl
null_unlike Null (Text t) h = refl
null_unlike Null (Truth b) h = refl
null_unlike (Int n) y h = absurd (cc)
null_unlike (Text t) y h = absurd (cc)
null_unlike (Truth b) y h = absurd (cc)

nulls_unlike : (xs ys : List Value) → list_any is_null xs ≡ true → all_alike xs ys ≡ false
nulls_unlike [] ys h = absurd (cc)
nulls_unlike (x ∷ xs) [] h = refl
nulls_unlike (x ∷ xs) (y ∷ ys) h = by_test (is_null x) refl h (nulls_unlike xs ys)
  where
    by_test : (b : Bool) → is_null x ≡ b → (b || list_any is_null xs) ≡ true → (list_any is_null xs ≡ true → all_alike xs ys ≡ false) → (alike x y && all_alike xs ys) ≡ false
    by_test true is h later = ap (λ a. a && all_alike xs ys) (null_unlike x y is)
    by_test false is h later = ap (λ a. alike x y && a) (later h) ∙ and_false (alike x y)

-- whichever entries are looked at
none_passes : (looked : ℤ × List Value → Bool) (values : List Value) (entries : List (ℤ × List Value)) → list_any is_null values ≡ true
    → filter (λ entry. looked entry && all_alike values entry.1) entries ≡ []
none_passes looked values [] h = refl
none_passes looked values (entry ∷ entries) h =
    let passes : ℤ × List Value → Bool = λ entry. looked entry && all_alike values entry.1 in
    let unlike : passes entry ≡ false = ap (λ a. looked entry && a) (nulls_unlike values entry.1 h) ∙ and_false (looked entry) in
    ap (λ b. cond b (entry ∷ filter passes entries) (filter passes entries)) unlike ∙ none_passes looked values entries h

pub nulls_clash_with_none : NullsClashWithNone
nulls_clash_with_none entries values key h = ap (λ found. least (keys_of found)) (none_passes (λ entry. not (int_eq entry.0 key)) values (finite.entries entries) h)

pub nulls_clash_beside_none : NullsClashBesideNone
nulls_clash_beside_none entries values keys h = ap (λ found. least (keys_of found)) (none_passes (λ entry. not (is_among entry.0 keys)) values (finite.entries entries) h)
