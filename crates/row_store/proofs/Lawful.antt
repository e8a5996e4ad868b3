-- The laws of rows by key.
use Rattle.std.proofs.Common.{◌≡◌, ℤ, true, List, [], ◌∷◌, Option, Some, None, refl, ap, sym, ◌∙◌, int_cmp, Ordering, Less, Equal, Greater}
use Rattle.std.specs.Prelude.{MatchOption}
use Rattle.std.specs.FinMap as map
use Rattle.std.specs.List as list
use Rattle.std.specs.Ordering.{is_le, is_lt}
use Rattle.std.proofs.lemmas.Cmp.{int_cmp_total, int_ranked}
use Rattle.std.specs.Cmp.{tied_itself}
use Rattle.sql_base.specs.declared.values.Value.{Value}
use Rattle.row_store.specs.Laws.{FirstIsLeast, HasNoneFrom, IsLeastFrom, PutIsInOrder, RemovedIsLeftOut}
use Rattle.row_store.specs.Stored.{Rows, first_from}
use Rattle.row_store.proofs.Placed.{Rises, absent_below, absent_more, cmp_flips, first_below, flips_back, less, rest_rises, without}
use Rattle.row_store.proofs.Maps.{entries-map_of, map_of, rises, without-map_of, without_rises}

rows_rise : (rows : Rows) → Rises (map.entries rows)
rows_rise rows = rises (map.entries rows) (map.entries_sorted rows)

again : (rows : Rows) → map_of (map.entries rows) ≡ rows
again rows = map.same_entries_map _ _ (entries-map_of (map.entries rows) (rows_rise rows))

pub put_is_in_order : PutIsInOrder
put_is_in_order rows key row = map.entries-insert int_cmp_total rows key row

pub removed_is_left_out : RemovedIsLeftOut
removed_is_left_out rows key =
    let entries = map.entries rows in
    let is : map_of (without key entries) ≡ map.remove rows key = without-map_of key entries (rows_rise rows) ∙ ap (λ m. map.remove m key) (again rows) in
    ap (λ (m : Rows). map.entries m) (sym is) ∙ entries-map_of (without key entries) (without_rises key entries (rows_rise rows))

-- ---- the least key

above : (first_key key other : ℤ) (o : Ordering) → int_cmp key other ≡ o → is_le o ≡ true → int_cmp first_key key ≡ Less → int_cmp first_key other ≡ Less
above first_key key other Less e le h = int_cmp_total.trans first_key key other h e
above first_key key other Equal e le h = ap (int_cmp first_key) (sym (int_ranked key other Equal (sym e))) ∙ h
above first_key key other Greater e le h = absurd (cc)

module _ {X : Type 0} where
  -- the keys that aren't below this one aren't found
  abbrev NoneFrom : ℤ → List (ℤ × X) → Type 0
  NoneFrom key entries = (other : ℤ) → is_le (int_cmp key other) ≡ true → map.find int_cmp other entries ≡ None

  abbrev LeastFrom : ℤ → List (ℤ × X) → ℤ × X → Type 0
  LeastFrom key entries found =
      (is_le (int_cmp key found.0) ≡ true) × (map.find int_cmp found.0 entries ≡ Some found.1)
      × ((other : ℤ) → is_le (int_cmp key other) ≡ true → is_lt (int_cmp other found.0) ≡ true → map.find int_cmp other entries ≡ None)

  abbrev first : ℤ → List (ℤ × X) → Option (ℤ × X)
  first key entries = list.find (λ entry. is_le (int_cmp key entry.0)) entries

  found_first : (entry : ℤ × X) (entries : List (ℤ × X)) → map.find int_cmp entry.0 (entry ∷ entries) ≡ Some entry.1
  found_first entry entries = rw (tied_itself int_cmp_total entry.0) refl

  here : (key : ℤ) (entry : ℤ × X) (entries : List (ℤ × X)) → Rises (entry ∷ entries) → is_le (int_cmp key entry.0) ≡ true → LeastFrom key (entry ∷ entries) entry
  here key entry entries h upto = (
    upto,
    found_first entry entries,
    λ other from below.
        let under = less (int_cmp other entry.0) below in absent_more other entry entries under (absent_below other entry.0 entries under (first_below entry entries h)),
  )

  -- a key that isn't below this one is looked for behind an entry that is
  past : (key : ℤ) (entry : ℤ × X) (entries : List (ℤ × X)) (other : ℤ) → int_cmp key entry.0 ≡ Greater → is_le (int_cmp key other) ≡ true → map.find int_cmp other (entry ∷ entries) ≡ map.find int_cmp other entries
  past key entry entries other g le =
      let behind : int_cmp other entry.0 ≡ Greater = flips_back entry.0 other (above entry.0 key other (int_cmp key other) refl le (cmp_flips key entry.0 g)) in
      rw behind refl

  later : (key : ℤ) (entry : ℤ × X) (entries : List (ℤ × X)) → int_cmp key entry.0 ≡ Greater → (o : Option (ℤ × X)) → MatchOption o (NoneFrom key entries) (LeastFrom key entries)
      → MatchOption o (NoneFrom key (entry ∷ entries)) (LeastFrom key (entry ∷ entries))
  later key entry entries g None none = λ other le. past key entry entries other g le ∙ none other le
  later key entry entries g (Some found) least =
      (least.0, past key entry entries found.0 g least.0 ∙ least.1, λ other le below. past key entry entries other g le ∙ least.2 other le below)

  first_least : (key : ℤ) (entries : List (ℤ × X)) → Rises entries → MatchOption (first key entries) (NoneFrom key entries) (LeastFrom key entries)
  first_least key [] h = λ other le. refl
  first_least key (entry ∷ entries) h = by_order (int_cmp key entry.0) refl (first_least key entries (rest_rises entry entries h))
    where
      by_order : (o : Ordering) → int_cmp key entry.0 ≡ o → MatchOption (first key entries) (NoneFrom key entries) (LeastFrom key entries)
          → MatchOption (first key (entry ∷ entries)) (NoneFrom key (entry ∷ entries)) (LeastFrom key (entry ∷ entries))
      by_order Less k rest = rw k (here key entry entries h (ap is_le k))
      by_order Equal k rest = rw k (here key entry entries h (ap is_le k))
      by_order Greater k rest = rw k (later key entry entries k (first key entries) rest)

as_map : (key : ℤ) (rows : Rows) (o : Option (ℤ × List Value)) → MatchOption o (NoneFrom key (map.entries rows)) (LeastFrom key (map.entries rows)) → MatchOption o (HasNoneFrom key rows) (IsLeastFrom key rows)
as_map key rows None none = λ other le. map.get-entries rows other ∙ none other le
as_map key rows (Some found) least = record {
  from = least.0;
  there = map.get-entries rows found.0 ∙ least.1;
  least = λ other le below. map.get-entries rows other ∙ least.2 other le below;
}

pub first_is_least : FirstIsLeast
first_is_least key rows = as_map key rows (first_from key rows) (first_least key (map.entries rows) (rows_rise rows))
