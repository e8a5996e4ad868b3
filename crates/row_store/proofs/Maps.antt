-- What entries whose keys rise mean as a map.
use Rattle.std.proofs.Common.{◌≡◌, ℤ, List, [], length, refl, ap, sym, ◌∙◌, Bool, true, false, not, cond, T, None, int_cmp, Equal}
use Rattle.std.specs.FinMap as map
use Rattle.std.specs.FinMap.Entries.{find-where_key, is_sorted-put, is_sorted-where_key}
use Rattle.std.specs.Cmp.{eq_by_cmp_equiv}
use Rattle.std.specs.Ordering.{eq_by_cmp, is_eq}
use Rattle.std.proofs.lemmas.Cmp.{int_cmp_total, int_ranked}
use Rattle.row_store.proofs.Placed.{Rises, without}

holds : (b : Bool) → b ≡ true → T b
holds true e = tt
holds false e = absurd (cc)

turned : {A : Type 0} (b : Bool) (x y : A) → cond (not b) x y ≡ cond b y x
turned true x y = refl
turned false x y = refl

module _ {X : Type 0} where
  -- the map of these entries
  abbrev pub map_of : List (ℤ × X) → map.FinMap int_cmp X
  map_of entries = map.from_sorted {R = int_cmp} entries

  pub entries-map_of : (entries : List (ℤ × X)) → Rises entries → map.entries (map_of entries) ≡ entries
  entries-map_of entries h = map.entries-from_sorted int_cmp entries (holds _ h)

  pub get-map_of : (entries : List (ℤ × X)) (key : ℤ) → Rises entries → map.get (map_of entries) key ≡ map.find int_cmp key entries
  get-map_of entries key h = map.get-from_sorted int_cmp entries key (holds _ h)

  pub len-map_of : (entries : List (ℤ × X)) → Rises entries → map.len (map_of entries) ≡ length entries
  len-map_of entries h = map.len-entries (map_of entries) ∙ ap length (entries-map_of entries h)

  pub empty-map_of : (entries : List (ℤ × X)) → entries ≡ [] → map_of entries ≡ map.empty
  empty-map_of entries e = ap map_of e ∙ map.empty_of_len (map_of []) (len-map_of [] refl)

  pub rises : (entries : List (ℤ × X)) → T (map.is_sorted int_cmp entries) → Rises entries
  rises entries h = by_test (map.is_sorted int_cmp entries) h
    where
      by_test : (b : Bool) → T b → b ≡ true
      by_test true h = refl
      by_test false h = absurd h

  pub put_rises : (key : ℤ) (value : X) (entries : List (ℤ × X)) → Rises entries → Rises (map.put int_cmp key value entries)
  put_rises key value entries h = rises (map.put int_cmp key value entries) (is_sorted-put int_cmp int_cmp_total key value entries (holds _ h))

  pub put-map_of : (key : ℤ) (value : X) (entries : List (ℤ × X)) → Rises entries → map_of (map.put int_cmp key value entries) ≡ map.insert (map_of entries) key value
  put-map_of key value entries h =
      map.same_entries_map _ _ (entries-map_of (map.put int_cmp key value entries) (put_rises key value entries h)
      ∙ sym (map.entries-insert int_cmp_total (map_of entries) key value ∙ ap (map.put int_cmp key value) (entries-map_of entries h)))

  pub without_rises : (key : ℤ) (entries : List (ℤ × X)) → Rises entries → Rises (without key entries)
  without_rises key entries h = rises (without key entries) (is_sorted-where_key int_cmp (λ other. not (eq_by_cmp int_cmp key other)) entries (holds _ h))

  pub without-map_of : (key : ℤ) (entries : List (ℤ × X)) → Rises entries → map_of (without key entries) ≡ map.remove (map_of entries) key
  without-map_of key entries h = map.same_map int_cmp_total map.int_cmp-IsAntisymmetric _ _ (λ q.
      get-map_of (without key entries) q (without_rises key entries h)
      ∙ find-where_key int_cmp (λ other. not (eq_by_cmp int_cmp key other)) q (λ x t. ap (λ r. not (is_eq r)) (sym (alike q x t))) entries
      ∙ turned (eq_by_cmp int_cmp key q) _ _
      ∙ ap (λ b. cond b None (map.find int_cmp q entries)) (int_same key q)
      ∙ sym (map.get-remove int_cmp_total (map_of entries) key q ∙ ap (cond (eq_by_cmp int_cmp q key) None) (get-map_of entries q h)))
    where
      alike : (q x : ℤ) → int_cmp q x ≡ Equal → int_cmp key q ≡ int_cmp key x
      alike q x t = ap (int_cmp key) (int_ranked q x Equal (sym t))

      int_same : (k q : ℤ) → eq_by_cmp int_cmp k q ≡ eq_by_cmp int_cmp q k
      int_same k q = (eq_by_cmp_equiv int_cmp_total).symm k q
