-- Places in entries whose keys rise: what is found there, put there and taken from there.
use Rattle.std.proofs.Common.{arith, ◌≡◌, ◌≤◌, ◌<◌, ℕ, zero, suc, ℤ, List, [], ◌∷◌, length, refl, ap, sym, subst, ◌∙◌, Bool, true, false, ◌&&◌, not, Option, Some, None, cond, int_cmp, int_eq, Ordering, Less, Equal, Greater}
use Rattle.std.specs.Prelude.{insert, is_some, remove, slice_get, slice_index_or, slice_set}
use Rattle.std.specs.FinMap.{find, is_sorted, put}
use Rattle.std.specs.FinMap.Entries.{below_all, where_key}
use Rattle.std.specs.List as list
use Rattle.std.specs.Ordering.{eq_by_cmp, is_le, is_lt, match_ordering, ordering_reverse}
use Rattle.std.proofs.lemmas.Cmp.{int_cmp_total, int_ranked}
use Rattle.row_store.specs.Place.{place, value_at}

-- ---- keys in order

left_true : (a b : Bool) → (a && b) ≡ true → a ≡ true
left_true true b h = refl
left_true false b h = h

right_true : (a b : Bool) → (a && b) ≡ true → b ≡ true
right_true true b h = h
right_true false b h = absurd (cc)

pub less : (o : Ordering) → is_lt o ≡ true → o ≡ Less
less Less h = refl
less Equal h = absurd (cc)
less Greater h = absurd (cc)

pub is_got : {Y : Type 0} (xs : List Y) (at : ℕ) (d : Y) → at < length xs → slice_get xs at ≡ Some (slice_index_or xs at d)
is_got [] at d h = absurd (omega arith)
is_got (first ∷ xs) zero d h = refl
is_got (first ∷ xs) (suc at) d h = is_got xs at d (omega arith)

pub cmp_flips : (x y : ℤ) → int_cmp x y ≡ Greater → int_cmp y x ≡ Less
cmp_flips x y h = int_cmp_total.antisymm y x ∙ ap ordering_reverse h

same_key : (x y : ℤ) → int_cmp x y ≡ Equal → x ≡ y
same_key x y h = int_ranked x y Equal (sym h)

pub flips_back : (x y : ℤ) → int_cmp x y ≡ Less → int_cmp y x ≡ Greater
flips_back x y h = int_cmp_total.antisymm y x ∙ ap ordering_reverse h

module _ {X : Type 0} where
  abbrev pub Rises : List (ℤ × X) → Type 0
  Rises entries = is_sorted int_cmp entries ≡ true

  abbrev IsBelow : ℤ → List (ℤ × X) → Type 0
  IsBelow key entries = below_all int_cmp key entries ≡ true

  pub first_below : (entry : ℤ × X) (entries : List (ℤ × X)) → Rises (entry ∷ entries) → IsBelow entry.0 entries
  first_below entry entries h = left_true (below_all int_cmp entry.0 entries) (is_sorted int_cmp entries) h

  pub rest_rises : (entry : ℤ × X) (entries : List (ℤ × X)) → Rises (entry ∷ entries) → Rises entries
  rest_rises entry entries h = right_true (below_all int_cmp entry.0 entries) (is_sorted int_cmp entries) h

  below_first : (key : ℤ) (entry : ℤ × X) (entries : List (ℤ × X)) → IsBelow key (entry ∷ entries) → int_cmp key entry.0 ≡ Less
  below_first key entry entries h = less _ (left_true (is_lt (int_cmp key entry.0)) (below_all int_cmp key entries) h)

  below_rest : (key : ℤ) (entry : ℤ × X) (entries : List (ℤ × X)) → IsBelow key (entry ∷ entries) → IsBelow key entries
  below_rest key entry entries h = right_true (is_lt (int_cmp key entry.0)) (below_all int_cmp key entries) h

  same_some : (a b : ℤ × X) → Some a ≡ Some b → a ≡ b
  same_some a b h = cc

  -- an entry further on has a greater key
  further : (key : ℤ) (entries : List (ℤ × X)) (at : ℕ) (other : ℤ × X) → IsBelow key entries → slice_get entries at ≡ Some other → int_cmp key other.0 ≡ Less
  further key [] at other h e = cc
  further key (entry ∷ entries) zero other h e = subst (λ (r : ℤ × X). int_cmp key r.0 ≡ Less) (same_some entry other e) (below_first key entry entries h)
  further key (entry ∷ entries) (suc at) other h e = further key entries at other (below_rest key entry entries h) e

  -- ---- the place of a key

  -- a key above that of an entry has its place behind it
  pub place_past : (key : ℤ) (entries : List (ℤ × X)) (at : ℕ) (other : ℤ × X) → Rises entries → slice_get entries at ≡ Some other → int_cmp key other.0 ≡ Greater → suc at ≤ place key entries
  place_past key [] at other h e g = cc
  place_past key (entry ∷ entries) zero other h e g =
      let past : int_cmp key entry.0 ≡ Greater = subst (λ (r : ℤ × X). int_cmp key r.0 ≡ Greater) (sym (same_some entry other e)) g in
      subst (λ o. 1 ≤ match_ordering o 0 0 (suc (place key entries))) (sym past) (omega arith)
  place_past key (entry ∷ entries) (suc at) other h e g =
      let before = further entry.0 entries at other (first_below entry entries h) e in
      let past : int_cmp key entry.0 ≡ Greater = flips_back entry.0 key (int_cmp_total.trans entry.0 other.0 key before (cmp_flips key other.0 g)) in
      let there = place_past key entries at other (rest_rises entry entries h) e g in
      subst (λ o. suc (suc at) ≤ match_ordering o 0 0 (suc (place key entries))) (sym past) (omega arith)

  -- a key that isn't has it there or before
  pub place_upto : (key : ℤ) (entries : List (ℤ × X)) (at : ℕ) (other : ℤ × X) → slice_get entries at ≡ Some other → (int_cmp key other.0 ≡ Greater → ⊥) → place key entries ≤ at
  place_upto key [] at other e g = cc
  place_upto key (entry ∷ entries) zero other e g = by_order (int_cmp key entry.0) (λ k. g (subst (λ (r : ℤ × X). int_cmp key r.0 ≡ Greater) (same_some entry other e) k))
    where
      by_order : (o : Ordering) → (o ≡ Greater → ⊥) → match_ordering o 0 0 (suc (place key entries)) ≤ 0
      by_order Less never = omega arith
      by_order Equal never = omega arith
      by_order Greater never = absurd (never refl)
  place_upto key (entry ∷ entries) (suc at) other e g = by_order (int_cmp key entry.0) (place_upto key entries at other e g)
    where
      by_order : (o : Ordering) → place key entries ≤ at → match_ordering o 0 0 (suc (place key entries)) ≤ suc at
      by_order Less there = omega arith
      by_order Equal there = omega arith
      by_order Greater there = omega arith

  pub place_within : (key : ℤ) (entries : List (ℤ × X)) → place key entries ≤ length entries
  place_within key [] = omega arith
  place_within key (entry ∷ entries) = by_order (int_cmp key entry.0) (place_within key entries)
    where
      by_order : (o : Ordering) → place key entries ≤ length entries → match_ordering o 0 0 (suc (place key entries)) ≤ suc (length entries)
      by_order Less there = omega arith
      by_order Equal there = omega arith
      by_order Greater there = omega arith

  -- ---- what is found

  pub absent_more : (key : ℤ) (entry : ℤ × X) (entries : List (ℤ × X)) → int_cmp key entry.0 ≡ Less → find int_cmp key entries ≡ None → find int_cmp key (entry ∷ entries) ≡ None
  absent_more key entry entries k there = rw k there

  pub absent_below : (key other : ℤ) (entries : List (ℤ × X)) → int_cmp key other ≡ Less → IsBelow other entries → find int_cmp key entries ≡ None
  absent_below key other [] k h = refl
  absent_below key other (entry ∷ entries) k h =
      absent_more key entry entries (int_cmp_total.trans key other entry.0 k (below_first other entry entries h)) (absent_below key other entries k (below_rest other entry entries h))

  pub find_place : (key : ℤ) (entries : List (ℤ × X)) → Rises entries → find int_cmp key entries ≡ value_at key (slice_get entries (place key entries))
  find_place key [] h = refl
  find_place key (entry ∷ entries) h = by_order (int_cmp key entry.0) refl (find_place key entries (rest_rises entry entries h))
    where
      by_order : (o : Ordering) → int_cmp key entry.0 ≡ o → find int_cmp key entries ≡ value_at key (slice_get entries (place key entries))
          → find int_cmp key (entry ∷ entries) ≡ value_at key (slice_get (entry ∷ entries) (match_ordering o 0 0 (suc (place key entries))))
      by_order Less k there = rw k (absent_below key entry.0 entries k (first_below entry entries h))
      by_order Equal k there = rw k refl
      by_order Greater k there = rw k there

  -- the first entry whose key isn't below this one
  pub first_place : (key : ℤ) (entries : List (ℤ × X)) → list.find (λ entry. is_le (int_cmp key entry.0)) entries ≡ slice_get entries (place key entries)
  first_place key [] = refl
  first_place key (entry ∷ entries) = by_order (int_cmp key entry.0) refl (first_place key entries)
    where
      by_order : (o : Ordering) → int_cmp key entry.0 ≡ o → list.find (λ entry. is_le (int_cmp key entry.0)) entries ≡ slice_get entries (place key entries)
          → list.find (λ entry. is_le (int_cmp key entry.0)) (entry ∷ entries) ≡ slice_get (entry ∷ entries) (match_ordering o 0 0 (suc (place key entries)))
      by_order Less k there = rw k refl
      by_order Equal k there = rw k refl
      by_order Greater k there = rw k there

  -- ---- what is put and taken

  -- the place of a key holds its entry, or none has the key
  abbrev pub HasAt : ℤ → List (ℤ × X) → Option X → Type 0
  HasAt key entries value = value_at key (slice_get entries (place key entries)) ≡ value

  pub put_fresh : (key : ℤ) (value : X) (entries : List (ℤ × X)) → HasAt key entries None → put int_cmp key value entries ≡ insert entries (place key entries) (key, value)
  put_fresh key value [] h = refl
  put_fresh key value (entry ∷ entries) h = by_order (int_cmp key entry.0) refl h (put_fresh key value entries)
    where
      by_order : (o : Ordering) → int_cmp key entry.0 ≡ o → value_at key (slice_get (entry ∷ entries) (match_ordering o 0 0 (suc (place key entries)))) ≡ None
          → (HasAt key entries None → put int_cmp key value entries ≡ insert entries (place key entries) (key, value))
          → put int_cmp key value (entry ∷ entries) ≡ insert (entry ∷ entries) (match_ordering o 0 0 (suc (place key entries))) (key, value)
      by_order Less k none there = rw k refl
      by_order Equal k none there = absurd (let wrong : Some entry.1 ≡ None = rw k at none in cc)
      by_order Greater k none there = rw k (ap (λ rest. entry ∷ rest) (there none))

  abbrev pub IsPutAt : ℤ → X → List (ℤ × X) → ℕ → Type 0
  IsPutAt key value entries at = (at < length entries) × (put int_cmp key value entries ≡ slice_set entries at (key, value))

  pub put_known : (key : ℤ) (value former : X) (entries : List (ℤ × X)) → HasAt key entries (Some former) → IsPutAt key value entries (place key entries)
  put_known key value former [] h = cc
  put_known key value former (entry ∷ entries) h = by_order (int_cmp key entry.0) refl h (put_known key value former entries)
    where
      by_order : (o : Ordering) → int_cmp key entry.0 ≡ o → value_at key (slice_get (entry ∷ entries) (match_ordering o 0 0 (suc (place key entries)))) ≡ Some former
          → (HasAt key entries (Some former) → IsPutAt key value entries (place key entries))
          → IsPutAt key value (entry ∷ entries) (match_ordering o 0 0 (suc (place key entries)))
      by_order Less k some there = absurd (let wrong : None ≡ Some former = rw k at some in cc)
      by_order Equal k some there = (omega arith, rw k (ap (λ at_key. (at_key, value) ∷ entries) (sym (same_key key entry.0 k))))
      by_order Greater k some there = let rest = there some in let within = rest.0 in (omega arith, rw k (ap (λ more. entry ∷ more) rest.1))

  abbrev pub without : ℤ → List (ℤ × X) → List (ℤ × X)
  without key entries = where_key int_cmp (λ other. not (eq_by_cmp int_cmp key other)) entries

  keeps_more : (key : ℤ) (entry : ℤ × X) (entries : List (ℤ × X)) → int_cmp key entry.0 ≡ Less → without key entries ≡ entries → without key (entry ∷ entries) ≡ entry ∷ entries
  keeps_more key entry entries k there = rw k (ap (λ rest. entry ∷ rest) there)

  keeps_below : (key other : ℤ) (entries : List (ℤ × X)) → int_cmp key other ≡ Equal → IsBelow other entries → without key entries ≡ entries
  keeps_below key other [] k h = refl
  keeps_below key other (entry ∷ entries) k h =
      keeps_more key entry entries (int_cmp_total.congr key other entry.0 k ∙ below_first other entry entries h) (keeps_below key other entries k (below_rest other entry entries h))

  pub without_known : (key : ℤ) (former : X) (entries : List (ℤ × X)) → Rises entries → HasAt key entries (Some former) → without key entries ≡ remove entries (place key entries)
  without_known key former [] a h = cc
  without_known key former (entry ∷ entries) a h = by_order (int_cmp key entry.0) refl h (without_known key former entries (rest_rises entry entries a))
    where
      by_order : (o : Ordering) → int_cmp key entry.0 ≡ o → value_at key (slice_get (entry ∷ entries) (match_ordering o 0 0 (suc (place key entries)))) ≡ Some former
          → (HasAt key entries (Some former) → without key entries ≡ remove entries (place key entries))
          → without key (entry ∷ entries) ≡ remove (entry ∷ entries) (match_ordering o 0 0 (suc (place key entries)))
      by_order Less k some there = absurd (let wrong : None ≡ Some former = rw k at some in cc)
      by_order Equal k some there = rw k (keeps_below key entry.0 entries k (first_below entry entries a))
      by_order Greater k some there = rw k (ap (λ rest. entry ∷ rest) (there some))

  -- ---- as the code sees it: a place, and whether its entry has the key

  some_at : (key : ℤ) (entry : ℤ × X) → is_some (value_at key (Some entry)) ≡ true → value_at key (Some entry) ≡ Some entry.1
  some_at key entry h = by_test (int_eq key entry.0) h
    where
      by_test : (b : Bool) → is_some (cond b (Some entry.1) None) ≡ true → cond b (Some entry.1) None ≡ Some entry.1
      by_test true h = refl
      by_test false h = absurd (cc)

  nothing : (o : Option X) → is_some o ≡ false → o ≡ None
  nothing None h = refl
  nothing (Some x) h = absurd (cc)

  -- the entry at its place has the key
  pub has_at : (key : ℤ) (entries : List (ℤ × X)) (at : ℕ) (entry : ℤ × X) → at ≡ place key entries → is_some (value_at key (slice_get entries at)) ≡ true → slice_get entries at ≡ Some entry → HasAt key entries (Some entry.1)
  has_at key entries at entry here some is =
      let there : slice_get entries (place key entries) ≡ Some entry = ap (slice_get entries) (sym here) ∙ is in
      ap (value_at key) there ∙ some_at key entry (ap (λ o. is_some (value_at key o)) (sym is) ∙ some)

  -- no entry has the key
  pub has_none : (key : ℤ) (entries : List (ℤ × X)) (at : ℕ) → at ≡ place key entries → is_some (value_at key (slice_get entries at)) ≡ false → HasAt key entries None
  has_none key entries at here none = ap (λ n. value_at key (slice_get entries n)) (sym here) ∙ nothing _ none

  pub has_within : (key : ℤ) (entries : List (ℤ × X)) (at : ℕ) → is_some (value_at key (slice_get entries at)) ≡ true → at < length entries
  has_within key [] at h = absurd (cc)
  has_within key (entry ∷ entries) zero h = omega arith
  has_within key (entry ∷ entries) (suc at) h = let rest = has_within key entries at h in omega arith

  -- where no entry has the key nothing is left out
  pub without_absent : (key : ℤ) (entries : List (ℤ × X)) → find int_cmp key entries ≡ None → without key entries ≡ entries
  without_absent key [] h = refl
  without_absent key (entry ∷ entries) h = by_test (eq_by_cmp int_cmp key entry.0) refl h (without_absent key entries)
    where
      by_test : (b : Bool) → eq_by_cmp int_cmp key entry.0 ≡ b → cond b (Some entry.1) (find int_cmp key entries) ≡ None → (find int_cmp key entries ≡ None → without key entries ≡ entries) → without key (entry ∷ entries) ≡ entry ∷ entries
      by_test true e none rest = absurd (cc)
      by_test false e none rest = rw e (ap (λ more. entry ∷ more) (rest none))
