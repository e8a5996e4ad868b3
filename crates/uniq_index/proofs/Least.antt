-- The first entry that clashes, of entries whose keys rise, has the least key of all that do.
use Rattle.std.proofs.Common.{◌≡◌, ◌<◌, ◌≤◌, ◌∙◌, ◌+◌, ℕ, zero, suc, ℤ, List, [], ◌∷◌, drop, length, refl, ap, sym, Bool, true, false, cond, T, Option, Some, None, int_cmp, Ordering, Less, Equal, Greater, arith, add-one}
use Rattle.std.specs.Prelude.{int_lt, is_some, slice_get}
use Rattle.std.specs.FinMap as map
use Rattle.std.specs.FinMap.{is_sorted}
use Rattle.std.specs.FinMap.Entries.{below_all}
use Rattle.std.specs.Int.{int_min}
use Rattle.std.specs.List.{filter}
use Rattle.std.specs.Map.{keys_of}
use Rattle.std.specs.Option.{option_or}
use Rattle.std.specs.Ordering.{is_lt, ordering_reverse}
use Rattle.std.proofs.lemmas.Cmp.{int_cmp_total}
use Rattle.std.proofs.lemmas.List.{drop_all}
use Rattle.sql_base.specs.declared.values.Value.{Value}
use Rattle.sql_base.specs.Laws.{both}
use Rattle.sql_eval.specs.Row.{least}
use Rattle.uniq_index.specs.Indexed.{Entries, clash_beside}
use Rattle.uniq_index.specs.Scan.{clashes, first_clashing, key_at}

-- ---- the lesser of two

less : (o : Ordering) → is_lt o ≡ true → o ≡ Less
less Less h = refl
less Equal h = absurd (cc)
less Greater h = absurd (cc)

not_below : (b : Bool) (o : Ordering) → cond b Less o ≡ Greater → b ≡ false
not_below true o h = absurd (cc)
not_below false o h = refl

min_is_first : (key other : ℤ) → int_cmp key other ≡ Less → int_min key other ≡ key
min_is_first key other h =
    let turned : int_cmp other key ≡ Greater = int_cmp_total.antisymm other key ∙ ap ordering_reverse h in
    ap (λ b. cond b other key) (not_below (int_lt other key) _ turned)

-- ---- keys that rise

module _ (values : List Value) (keys : List ℤ) where
  abbrev keys_clashing : List (ℤ × List Value) → List ℤ
  keys_clashing entries = keys_of (filter (clashes values keys) entries)

  -- the lesser of a key and the least of others, if there is one
  abbrev lesser : ℤ → Option ℤ → ℤ
  lesser first found = elim found [ None ↦ first | Some other ↦ int_min first other ]

  below_stays : (first : ℤ) (entries : List (ℤ × List Value)) → below_all int_cmp first entries ≡ true → is_sorted int_cmp entries ≡ true → lesser first (least (keys_clashing entries)) ≡ first
  below_stays first [] below rise = refl
  below_stays first (entry ∷ entries) below rise =
      let under = both (is_lt (int_cmp first entry.0)) (below_all int_cmp first entries) below in
      let rest = both (below_all int_cmp entry.0 entries) (is_sorted int_cmp entries) rise in
      by_test (clashes values keys entry) (below_stays first entries under.1 rest.1) (below_stays entry.0 entries rest.0 rest.1) (less (int_cmp first entry.0) under.0)
    where
      by_test : (b : Bool) → lesser first (least (keys_clashing entries)) ≡ first → lesser entry.0 (least (keys_clashing entries)) ≡ entry.0 → int_cmp first entry.0 ≡ Less
          → lesser first (least (keys_of (cond b (entry ∷ filter (clashes values keys) entries) (filter (clashes values keys) entries)))) ≡ first
      by_test true past here under = ap (int_min first) here ∙ min_is_first first entry.0 under
      by_test false past here under = past

  first_is_least : (entries : List (ℤ × List Value)) → is_sorted int_cmp entries ≡ true → first_clashing values keys entries ≡ least (keys_clashing entries)
  first_is_least [] rise = refl
  first_is_least (entry ∷ entries) rise =
      let rest = both (below_all int_cmp entry.0 entries) (is_sorted int_cmp entries) rise in
      by_test (clashes values keys entry) (first_is_least entries rest.1) (below_stays entry.0 entries rest.0 rest.1)
    where
      by_test : (b : Bool) → first_clashing values keys entries ≡ least (keys_clashing entries) → lesser entry.0 (least (keys_clashing entries)) ≡ entry.0
          → option_or (cond b (Some entry.0) None) (first_clashing values keys entries) ≡ least (keys_of (cond b (entry ∷ filter (clashes values keys) entries) (filter (clashes values keys) entries)))
      by_test true later here = ap Some (sym here)
      by_test false later here = later

  -- ---- from a place on

  at_place : (at : ℕ) (entries : List (ℤ × List Value)) → at < length entries
      → first_clashing values keys (drop at entries) ≡ option_or (key_at values keys (slice_get entries at)) (first_clashing values keys (drop (suc at) entries))
  at_place at [] within = absurd (omega arith)
  at_place zero (entry ∷ entries) within = refl
  at_place (suc at) (entry ∷ entries) within = at_place at entries (omega arith)

  -- where the entry there clashes
  pub found_there : (at : ℕ) (entries : List (ℤ × List Value)) (found : Option ℤ) → at < length entries → found ≡ key_at values keys (slice_get entries at) → is_some found ≡ true
      → first_clashing values keys (drop at entries) ≡ found
  found_there at entries None within is some = absurd (cc)
  found_there at entries (Some other) within is some =
      at_place at entries within ∙ ap (λ o. option_or o (first_clashing values keys (drop (suc at) entries))) (sym is)

  -- where it doesn't
  pub passed : (at : ℕ) (entries : List (ℤ × List Value)) (found : Option ℤ) → at < length entries → found ≡ key_at values keys (slice_get entries at) → is_some found ≡ false
      → first_clashing values keys (drop at entries) ≡ first_clashing values keys (drop (at + 1) entries)
  passed at entries (Some other) within is none = absurd (cc)
  passed at entries None within is none =
      at_place at entries within ∙ ap (λ o. option_or o (first_clashing values keys (drop (suc at) entries))) (sym is)
      ∙ ap (λ n. first_clashing values keys (drop n entries)) (sym (add-one at))

  pub none_past : (at : ℕ) (entries : List (ℤ × List Value)) → length entries ≤ at → first_clashing values keys (drop at entries) ≡ None
  none_past at entries past = ap (first_clashing values keys) (drop_all at entries past)

  pub first_of_all : (entries : Entries) → first_clashing values keys (map.entries entries) ≡ clash_beside entries values keys
  first_of_all entries = first_is_least (map.entries entries) (holds (is_sorted int_cmp (map.entries entries)) (map.entries_sorted entries))
    where
      holds : (b : Bool) → T b → b ≡ true
      holds true h = refl
      holds false h = absurd h
