-- Rows from a place on, where what is asked of the row at that place is known.
use Rattle.std.proofs.Common.{◌≡◌, ℕ, zero, suc, ◌+◌, ◌-◌, ◌<◌, ◌≤◌, ◌++◌, ℤ, List, [], ◌∷◌, Bool, true, false, ◌||◌, cond, Option, Some, drop, length, map, refl, ap, subst, sym, append_assoc, length-append, take, arith, add-one, int_cmp, Less}
use Rattle.std.specs.Prelude.{is_none, slice_get}
use Rattle.std.specs.List.{filter, list_any}
use Rattle.std.specs.Option.{option_map}
use Rattle.row_rules.specs.Rows.{Ascends, missing_keys}
use Rattle.row_rules.specs.Site.{is_missing}
use Rattle.row_rules.specs.Words.{Kept}

pub some_same : {T : Type 0} (a b : T) → ◌≡◌ {A = Option T} (Some a) (Some b) → a ≡ b
some_same a b h = cc

-- The first of the rows from a place on is the one at that place.
pub at_place : {T : Type 0} (xs : List T) (at : ℕ) → at < length xs → (x : T) × (drop at xs ≡ x ∷ drop (at + 1) xs) × (slice_get xs at ≡ Some x)
at_place [] at h = absurd (omega arith)
at_place (x ∷ xs) zero h = (x, refl, refl)
at_place {T} (x ∷ xs) (suc n) h =
    let rest = at_place xs n (omega arith) in
    let next : drop (suc n + 1) (x ∷ xs) ≡ drop (n + 1) xs = rw (add-one, add-one) refl in
    (rest.0, cc, rest.2)

pub missing_here : (rows : List Kept) (at : ℕ) (row : Kept) → at < length rows → option_map (λ row. is_none row.halves.new) (slice_get rows at) ≡ Some true → slice_get rows at ≡ Some row →
    filter is_missing (drop at rows) ≡ row ∷ filter is_missing (drop (at + 1) rows)
missing_here rows at row h missing is =
    let first = at_place rows at h in
    let same : first.0 ≡ row = some_same first.0 row cc in
    let now : is_missing first.0 ≡ true = some_same (is_missing first.0) true (rw first.2 at missing) in
    rw first.1 (rw now (ap (λ row. row ∷ filter is_missing (drop (at + 1) rows)) same))

pub filled_here : (rows : List Kept) (at : ℕ) → at < length rows → option_map (λ row. is_none row.halves.new) (slice_get rows at) ≡ Some false →
    filter is_missing (drop at rows) ≡ filter is_missing (drop (at + 1) rows)
filled_here rows at h missing =
    let first = at_place rows at h in
    let now : is_missing first.0 ≡ false = some_same (is_missing first.0) false (rw first.2 at missing) in
    rw first.1 (rw now refl)

pub missing_key : (rows : List Kept) (at : ℕ) (key : ℤ) (missing : Bool) → at < length rows
    → option_map (λ row. row.key) (slice_get rows at) ≡ Some key → option_map (λ row. is_none row.halves.new) (slice_get rows at) ≡ Some missing →
    missing_keys (drop at rows) ≡ cond missing (key ∷ missing_keys (drop (at + 1) rows)) (missing_keys (drop (at + 1) rows))
missing_key rows at key missing h of_key is_so =
    let first = at_place rows at h in
    let same : first.0.key ≡ key = some_same first.0.key key (rw first.2 at of_key) in
    let now : is_missing first.0 ≡ missing = some_same (is_missing first.0) missing (rw first.2 at is_so) in
    rw first.1 (rw (← same, ← now) (by_test first.0 (is_missing first.0) (drop (at + 1) rows)))
  where
    by_test : (row : Kept) (b : Bool) (rows : List Kept) →
        map (λ row. row.key) (cond b (row ∷ filter is_missing rows) (filter is_missing rows)) ≡ cond b (row.key ∷ missing_keys rows) (missing_keys rows)
    by_test row true rows = refl
    by_test row false rows = refl

pub any_missing_here : (rows : List Kept) (at : ℕ) (missing : Bool) → at < length rows → option_map (λ row. is_none row.halves.new) (slice_get rows at) ≡ Some missing →
    list_any is_missing (drop at rows) ≡ (missing || list_any is_missing (drop (at + 1) rows))
any_missing_here rows at missing h is_so =
    let first = at_place rows at h in
    let now : is_missing first.0 ≡ missing = some_same (is_missing first.0) missing (rw first.2 at is_so) in
    rw first.1 (ap (λ b. b || list_any is_missing (drop (at + 1) rows)) now)

one_taken : {T : Type 0} (row : T) (rest : List T) (n m : ℕ) → n ≡ suc m → take n (row ∷ rest) ≡ row ∷ take m rest
one_taken row rest n m h = rw h refl

-- One more of the rows that are still to be filled, of which so many are taken.
pub one_more_missing : (rows : List Kept) (n at : ℕ) (so_far next : List Kept) (row : Kept) → at < length rows → length so_far < n → next ≡ so_far ++ row ∷ []
    → option_map (λ row. is_none row.halves.new) (slice_get rows at) ≡ Some true → slice_get rows at ≡ Some row
    → so_far ++ take (n - length so_far) (filter is_missing (drop at rows)) ≡ take n (filter is_missing rows)
    → (length next ≤ n) × (next ++ take (n - length next) (filter is_missing (drop (at + 1) rows)) ≡ take n (filter is_missing rows))
one_more_missing rows n at so_far next row within room is missing at_row before =
    let longer : length next ≡ length so_far + 1 = rw is (length-append so_far (row ∷ [])) in
    let rest = filter is_missing (drop (at + 1) rows) in
    let here = missing_here rows at row within missing at_row in
    let one : take (n - length so_far) (row ∷ rest) ≡ row ∷ take (n - length next) rest = one_taken row rest (n - length so_far) (n - length next) (omega arith) in
    let whole : (so_far ++ row ∷ []) ++ take (n - length next) rest ≡ so_far ++ row ∷ take (n - length next) rest = append_assoc so_far (row ∷ []) (take (n - length next) rest) in
    (omega arith, cc)

-- The rows from a place on, where the row at that place is known.
pub here : (rows : List Kept) (at : ℕ) (row : Kept) → at < length rows → slice_get rows at ≡ Some row → drop at rows ≡ row ∷ drop (at + 1) rows
here rows at row within is =
    let first = at_place rows at within in
    let same : first.0 ≡ row = some_same first.0 row cc in
    rw (← same) first.1

-- ---- rows that ascend from a place on

pub ascends_last : (rows : List Kept) (at : ℕ) → length rows ≤ at + 1 → Ascends (drop at rows)
ascends_last [] zero h = tt
ascends_last [] (suc n) h = tt
ascends_last (row ∷ []) zero h = tt
ascends_last (row ∷ next ∷ rows) zero h = absurd (omega arith)
ascends_last (row ∷ rows) (suc n) h = ascends_last rows n (omega arith)

pub ascends_earlier : (rows : List Kept) (at : ℕ) (key next : ℤ) → at + 1 < length rows → option_map (λ row. row.key) (slice_get rows at) ≡ Some key
    → option_map (λ row. row.key) (slice_get rows (at + 1)) ≡ Some next → int_cmp key next ≡ Less → Ascends (drop (at + 1) rows) → Ascends (drop at rows)
ascends_earlier rows at key next within of_key of_next less after =
    let first = at_place rows at (omega arith) in
    let second = at_place rows (at + 1) within in
    let here : first.0.key ≡ key = some_same first.0.key key (rw first.2 at of_key) in
    let there : second.0.key ≡ next = some_same second.0.key next (rw second.2 at of_next) in
    let ordered : int_cmp first.0.key second.0.key ≡ Less = rw (here, there) less in
    subst Ascends (sym first.1)
    (subst (λ rest. Ascends (first.0 ∷ rest)) (sym second.1) (ordered, subst Ascends second.1 after))
