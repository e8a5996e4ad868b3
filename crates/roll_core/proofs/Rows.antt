-- Stored rows and the rows that they mean, also after changes.
use Rattle.roll_core.proofs.Words.{Bor, ◌≡◌, ◌∙◌, ℤ, List, [], ◌∷◌, true, false, ◌||◌, not, Option, Some, None, is_some, int_cmp, int_eq, Less, Equal, Greater, ap, refl, sym, length, map, filter}
use Rattle.roll_core.proofs.Words.{cond, put, picked, where_key, int_eq_equiv, AllByRecursion, list_any, option_copied, eq_by_cmp, match_ordering, Value, Kept, put_row, Rows, Form, StoredRow, kept}
use Rattle.roll_core.proofs.Words.{arith, ◌≤◌, ◌+◌, ℕ, subst, int_cmp_total, Change, Put, Remove, after_change, after_changes, OfPut, RemovedIsLeftOut, StoredChange, put_all, put_stored}
use Rattle.roll_core.proofs.Words.{stored_change, meant_change, meant_changes, IsStoredRow}
use Rattle.roll_core.specs.declared.changing.StoredChange.TheVariants as stored
use Rattle.roll_core.proofs.Words.finite
use Rattle.roll_core.proofs.Storing.{StoresRow}

-- ---- keys and the number of rows

any_meant : (form : Form) (key : ℤ) (rows : List StoredRow) → list_any (eq_by_cmp int_cmp key) (map (λ row. row.0) rows) ≡ list_any (λ row. int_eq key row.key) (map (kept form) rows)
any_meant form key [] = refl
any_meant form key (row ∷ rows) = ap (λ rest. int_eq key row.0 || rest) (any_meant form key rows)

-- A row of this key is stored exactly where one is meant.
pub has_key-stored : (form : Form) (key : ℤ) (rows : Rows) → is_some (finite.get rows key) ≡ list_any (λ row. int_eq key row.key) (map (kept form) (finite.entries rows))
has_key-stored form key rows = finite.contains_key-keys rows key ∙ any_meant form key (finite.entries rows)

pub has_key-meant : (form : Form) (key : ℤ) (rows : Rows) (got : Option (Bor (List Value))) → option_copied got ≡ finite.get rows key → is_some got ≡ list_any (λ row. int_eq key row.key) (map (kept form) (finite.entries rows))
has_key-meant form key rows got is = elim got as (λ got. is_some got ≡ is_some (option_copied got)) [ None ↦ refl | Some values ↦ refl ] ∙ ap is_some is ∙ has_key-stored form key rows

-- ---- one row put

-- A stored row is put where the row that it means is put.
pub put-meant : (form : Form) (row : Kept) (values : List Value) → kept form (row.key, values) ≡ row → (rows : List StoredRow) → map (kept form) (put int_cmp row.key values rows) ≡ put_row row (map (kept form) rows)
put-meant form row values is [] = ap (λ r. r ∷ []) is
put-meant form row values is (first ∷ rows) =
    elim (int_cmp row.key first.0) as (λ o. int_cmp row.key first.0 ≡ o → map (kept form) (picked o ((row.key, values) ∷ first ∷ rows) ((first.0, values) ∷ rows) (first ∷ put int_cmp row.key values rows))
    ≡ match_ordering o (row ∷ kept form first ∷ map (kept form) rows) (row ∷ map (kept form) rows) (kept form first ∷ put_row row (map (kept form) rows))) [
      | Less ↦ λ e. ap (λ r. r ∷ kept form first ∷ map (kept form) rows) is
      | Equal ↦ λ e. ap (λ r. r ∷ map (kept form) rows) (ap (λ k. kept form (k, values)) (sym (finite.int_cmp-IsAntisymmetric row.key first.0 e)) ∙ is)
      | Greater ↦ λ e. ap (λ rest. kept form first ∷ rest) (put-meant form row values is rows)
    ] refl

-- What holds of the values of each row and of the new ones holds of all.
pub put_all_hold : (P : List Value → Type 0) (key : ℤ) (values : List Value) → P values → (rows : List StoredRow) → AllByRecursion (λ row. P row.1) rows → AllByRecursion (λ row. P row.1) (put int_cmp key values rows)
put_all_hold P key values p [] h = (p, tt)
put_all_hold P key values p (first ∷ rows) h =
    elim (int_cmp key first.0) as (λ o. AllByRecursion (λ row. P row.1) (picked o ((key, values) ∷ first ∷ rows) ((first.0, values) ∷ rows) (first ∷ put int_cmp key values rows)))
    [ Less ↦ (p, h) | Equal ↦ (p, h.1) | Greater ↦ (h.0, put_all_hold P key values p rows h.1) ]

-- ---- one row removed

-- A stored row is removed where the row that it means is removed.
pub removed-meant : (form : Form) (key : ℤ) (rows : List StoredRow) → map (kept form) (where_key int_cmp (λ other. not (eq_by_cmp int_cmp key other)) rows) ≡ filter (λ row. not (int_eq row.key key)) (map (kept form) rows)
removed-meant form key [] = refl
removed-meant form key (row ∷ rows) =
    let left = where_key int_cmp (λ other. not (eq_by_cmp int_cmp key other)) rows in
    let wanted = filter (λ row. not (int_eq row.key key)) (map (kept form) rows) in
    let there : map (kept form) left ≡ wanted = removed-meant form key rows in
    elim (eq_by_cmp int_cmp key row.0) as (λ a. map (kept form) (cond (not a) (row ∷ left) left) ≡ cond (not a) (kept form row ∷ wanted) wanted) [ true ↦ there | false ↦ ap (λ rest. kept form row ∷ rest) there ]
    ∙ ap (λ b. cond (not b) (kept form row ∷ wanted) wanted) (int_eq_equiv.symm key row.0)

pub removed_all_hold : (P : List Value → Type 0) (key : ℤ) (rows : List StoredRow) → AllByRecursion (λ row. P row.1) rows → AllByRecursion (λ row. P row.1) (where_key int_cmp (λ other. not (eq_by_cmp int_cmp key other)) rows)
removed_all_hold P key [] h = tt
removed_all_hold P key (row ∷ rows) h =
    let left = where_key int_cmp (λ other. not (eq_by_cmp int_cmp key other)) rows in
    let there = removed_all_hold P key rows h.1 in
    elim (eq_by_cmp int_cmp key row.0) as (λ a. AllByRecursion (λ row. P row.1) (cond (not a) (row ∷ left) left)) [ true ↦ there | false ↦ (h.0, there) ]

-- ---- the loop

pub step_room : (change : StoredChange) (rest items : List StoredChange) (rows new : Rows) (spare room : ℕ) (wanted : Rows) → items ≡ change ∷ rest → new ≡ put_stored change rows → length items ≤ spare → spare ≤ room + 1 → put_all items rows ≡ wanted → (length rest ≤ room) × (put_all rest new ≡ wanted)
step_room change rest items rows new spare room wanted e is few left h =
    let long = ap length e in
    let same : put_all rest new ≡ put_all items rows = ap (put_all rest) is ∙ ap (λ all. put_all all rows) (sym e) in
    (omega (arith, long, few, left), same ∙ h)

pub step_end : (items : List StoredChange) (rows wanted : Rows) (len : ℕ) → len ≡ 0 → len ≡ length items → put_all items rows ≡ wanted → rows ≡ wanted
step_end [] rows wanted len e l h = h
step_end (change ∷ items) rows wanted len e l h = absurd (omega (arith, e, l))

-- ---- what the rows mean

-- Each row that a change puts is stored so that it is meant.
abbrev pub Stores : Form → Rows → Change → Type 0
Stores form before change = OfPut (λ row. StoresRow form (finite.get before row.key) row) change

one_meant : RemovedIsLeftOut → (form : Form) (before : Rows) (change : Change) (rows : Rows) → Stores form before change → map (kept form) (finite.entries (put_stored (stored_change form before change) rows)) ≡ after_change change (map (kept form) (finite.entries rows))
one_meant law form before (Put row) rows s = ap (map (kept form)) (finite.entries-insert int_cmp_total rows row.key _) ∙ put-meant form row _ s.means (finite.entries rows)
one_meant law form before (Remove key) rows s = ap (map (kept form)) (law rows key) ∙ removed-meant form key (finite.entries rows)

pub all_meant : RemovedIsLeftOut → (form : Form) (before : Rows) (changes : List Change) (rows : Rows) → AllByRecursion (Stores form before) changes → map (kept form) (finite.entries (put_all (map (stored_change form before) changes) rows)) ≡ after_changes changes (map (kept form) (finite.entries rows))
all_meant law form before [] rows s = refl
all_meant law form before (change ∷ changes) rows s =
    all_meant law form before changes (put_stored (stored_change form before change) rows) s.1 ∙ ap (after_changes changes) (one_meant law form before change rows s.0)

-- ---- how they are stored

one_stored : RemovedIsLeftOut → (form : Form) (before : Rows) (change : Change) (rows : Rows) → Stores form before change → AllByRecursion (λ row. IsStoredRow form row.1) (finite.entries rows) → AllByRecursion (λ row. IsStoredRow form row.1) (finite.entries (put_stored (stored_change form before change) rows))
one_stored law form before (Put row) rows s h = subst (AllByRecursion (λ row. IsStoredRow form row.1)) (sym (finite.entries-insert int_cmp_total rows row.key _)) (put_all_hold (IsStoredRow form) row.key _ s.stored (finite.entries rows) h)
one_stored law form before (Remove key) rows s h = subst (AllByRecursion (λ row. IsStoredRow form row.1)) (sym (law rows key)) (removed_all_hold (IsStoredRow form) key (finite.entries rows) h)

pub all_stored : RemovedIsLeftOut → (form : Form) (before : Rows) (changes : List Change) (rows : Rows) → AllByRecursion (Stores form before) changes → AllByRecursion (λ row. IsStoredRow form row.1) (finite.entries rows) → AllByRecursion (λ row. IsStoredRow form row.1) (finite.entries (put_all (map (stored_change form before) changes) rows))
all_stored law form before [] rows s h = h
all_stored law form before (change ∷ changes) rows s h = all_stored law form before changes (put_stored (stored_change form before change) rows) s.1 (one_stored law form before change rows s.0 h)

-- ---- changes as the indexes have them

stored_meant : RemovedIsLeftOut → (form : Form) (change : StoredChange) (rows : Rows)
    → map (kept form) (finite.entries (put_stored change rows))
    ≡ after_change (meant_change form change) (map (kept form) (finite.entries rows))
stored_meant law form (stored.Put key values) rows =
    ap (map (kept form)) (finite.entries-insert int_cmp_total rows key values)
    ∙ put-meant form (kept form (key, values)) values refl (finite.entries rows)
stored_meant law form (stored.Remove key) rows =
    ap (map (kept form)) (law rows key) ∙ removed-meant form key (finite.entries rows)

-- Whatever is stored, the rows that are meant change so.
pub changes_meant : RemovedIsLeftOut → (form : Form) (changes : List StoredChange) (rows : Rows)
    → map (kept form) (finite.entries (put_all changes rows))
    ≡ after_changes (meant_changes form changes) (map (kept form) (finite.entries rows))
changes_meant law form [] rows = refl
changes_meant law form (change ∷ changes) rows =
    changes_meant law form changes (put_stored change rows)
    ∙ ap (after_changes (meant_changes form changes)) (stored_meant law form change rows)
