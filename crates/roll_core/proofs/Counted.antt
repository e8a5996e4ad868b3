-- How many rows changes leave.
use Rattle.roll_core.proofs.Words.{arith, ◌≡◌, ◌≤◌, ◌∙◌, suc, ◌+◌, ◌-◌, ℤ, List, [], ◌∷◌, Bool, true, false, ◌||◌, Some, None, Result, Ok, cond, is_some, nat_lt, length, map, filter, ap, refl, sym}
use Rattle.roll_core.proofs.Words.{subst, int_cmp, int_eq, int_cmp_total, int_eq_equiv, Each, eq_by_cmp, nat_tests, and_then_ok, ok_same, Value, least, Cause, Change, Put, Remove, Kept, has_key}
use Rattle.roll_core.proofs.Words.{is_taken, key_cause, keys_of, times, taken_key, put_each, rows_put, Table, Rows, Form, put_all, put_stored, stored_change}
use Rattle.roll_core.proofs.Words.finite
use Rattle.roll_core.proofs.Outcomes.{none_mapped}
use Rattle.roll_core.proofs.Tables.{each_of}

-- ---- rows that are put, row by row

pub rows_are : (r : Result (List Kept) Cause) (all : List Change) → put_each r ≡ Ok all → (rows : List Kept) × (r ≡ Ok rows) × (map Put rows ≡ all)
rows_are r all e =
    let step = and_then_ok r (λ rows. Ok (map Put rows)) all e in
    (step.0, step.1, ok_same (map Put step.0) all step.2)

pub rows_put-all : (rows : List Kept) → rows_put (map Put rows) ≡ rows
rows_put-all [] = refl
rows_put-all (row ∷ rows) = ap (λ rest. row ∷ rest) (rows_put-all rows)

-- ---- new keys

none_pass : (q : ℤ → Bool) (rows : List Kept) → filter q (map (λ row. row.key) rows) ≡ [] → Each (λ row. q row.key ≡ false) rows
none_pass q [] e = tt
none_pass q (row ∷ rows) e =
    elim (q row.key) as (λ b. q row.key ≡ b → cond b (row.key ∷ filter q (map (λ row. row.key) rows)) (filter q (map (λ row. row.key) rows)) ≡ [] → Each (λ row. q row.key ≡ false) (row ∷ rows))
    [ true ↦ λ k e. cc | false ↦ λ k e. (k, none_pass q rows e) ] refl e

abbrev pub Distinct : List Kept → Type 0
Distinct [] = Unit {0}
Distinct (row ∷ rows) = Each (λ other. int_eq row.key other.key ≡ false) rows × Distinct rows

never : (key : ℤ) (rows : List Kept) → times key rows ≡ 0 → Each (λ row. int_eq key row.key ≡ false) rows
never key [] e = tt
never key (row ∷ rows) e =
    elim (int_eq key row.key) as (λ b. int_eq key row.key ≡ b → length (cond b (row ∷ filter (λ row. int_eq key row.key) rows) (filter (λ row. int_eq key row.key) rows)) ≡ 0 → Each (λ row. int_eq key row.key ≡ false) (row ∷ rows))
    [ true ↦ λ k e. absurd (omega (arith, e)) | false ↦ λ k e. (k, never key rows e) ] refl e

head_once : (row : Kept) (rows : List Kept) → nat_lt 1 (times row.key (row ∷ rows)) ≡ false → times row.key rows ≡ 0
head_once row rows h =
    let here : times row.key (row ∷ rows) ≡ suc (times row.key rows) = ap (λ b. length (cond b (row ∷ filter (λ other. int_eq row.key other.key) rows) (filter (λ other. int_eq row.key other.key) rows))) (int_eq_equiv.refl row.key) in
    let few : nat_lt 1 (suc (times row.key rows)) ≡ false = ap (nat_lt 1) (sym here) ∙ h in
    grind (arith, nat_tests)

fewer : (key : ℤ) (row : Kept) (rows : List Kept) → times key rows ≤ times key (row ∷ rows)
fewer key row rows =
    elim (int_eq key row.key) as (λ b. times key rows ≤ length (cond b (row ∷ filter (λ row. int_eq key row.key) rows) (filter (λ row. int_eq key row.key) rows))) [ true ↦ omega arith | false ↦ omega arith ]

tail_once : (row : Kept) (rows : List Kept) (other : Kept) → nat_lt 1 (times other.key (row ∷ rows)) ≡ false → nat_lt 1 (times other.key rows) ≡ false
tail_once row rows other few = let less = fewer other.key row rows in grind (arith, nat_tests)

distinct : (rows : List Kept) → Each (λ row. nat_lt 1 (times row.key rows) ≡ false) rows → Distinct rows
distinct [] h = tt
distinct (row ∷ rows) h = (never row.key rows (head_once row rows h.0), distinct rows (each_of (tail_once row rows) rows h.1))

-- No older row has the key of a new one, and no other new one has it.
pub record Fresh (older new : List Kept) : Type 0 where
  pub apart : Each (λ row. has_key row.key older ≡ false) new
  pub once : Distinct new

pub fresh : (table : Table) (older new : List Kept) → key_cause table older new ≡ None → Fresh older new
fresh table older new h =
    let none = none_pass (is_taken older new) new (elim (filter (is_taken older new) (keys_of new)) as (λ keys. least keys ≡ None → keys ≡ []) [ [] ↦ λ e. refl | key ∷ keys ↦ λ e. cc ] (none_mapped (taken_key table) (least (filter (is_taken older new) (keys_of new))) h)) in
    let either = λ (row : Kept). elim (has_key row.key older) as (λ a. (a || nat_lt 1 (times row.key new)) ≡ false → (a ≡ false) × (nat_lt 1 (times row.key new) ≡ false)) [ true ↦ λ h. cc | false ↦ λ h. (refl, h) ] in
    record { apart = each_of (λ row n. (either row n).0) new none; once = distinct new (each_of (λ row n. (either row n).1) new none) }

-- ---- lengths

still_apart : (rows : Rows) (key : ℤ) (values : List Value) (new : List Kept) → Each (λ row. finite.contains_key rows row.key ≡ false) new → Each (λ other. int_eq key other.key ≡ false) new → Each (λ row. finite.contains_key (finite.insert rows key values) row.key ≡ false) new
still_apart rows key values [] h d = tt
still_apart rows key values (row ∷ new) h d =
    let other = ap (λ t. is_some (cond t (Some values) (finite.get rows row.key))) (int_eq_equiv.symm row.key key ∙ d.0) in
    (ap is_some (finite.get-insert int_cmp_total rows key values row.key) ∙ other ∙ h.0, still_apart rows key values new h.1 d.1)

-- New rows of new keys are as many more.
pub new_count : (form : Form) (before : Rows) (new : List Kept) (rows : Rows) → Each (λ row. finite.contains_key rows row.key ≡ false) new → Distinct new → finite.len (put_all (map (stored_change form before) (map Put new)) rows) ≡ finite.len rows + length new
new_count form before [] rows h d = omega arith
new_count form before (row ∷ new) rows h d =
    let after = put_stored (stored_change form before (Put row)) rows in
    let one : finite.len after ≡ finite.len rows + 1 = finite.len-insert int_cmp_total rows row.key _ ∙ ap (λ b. cond b (finite.len rows) (finite.len rows + 1)) h.0 in
    let rest = new_count form before new after (still_apart rows row.key _ new h.1 d.0) d.1 in
    omega (arith, one, rest)

still_there : (rows : Rows) (key : ℤ) (values : List Value) (new : List Kept) → Each (λ row. finite.contains_key rows row.key ≡ true) new → Each (λ row. finite.contains_key (finite.insert rows key values) row.key ≡ true) new
still_there rows key values [] h = tt
still_there rows key values (row ∷ new) h =
    let here = elim (eq_by_cmp int_cmp row.key key) as (λ b. is_some (cond b (Some values) (finite.get rows row.key)) ≡ true) [ true ↦ refl | false ↦ h.0 ] in
    (ap is_some (finite.get-insert int_cmp_total rows key values row.key) ∙ here, still_there rows key values new h.1)

-- Rows of keys that are there are no more.
pub same_count : (form : Form) (before : Rows) (new : List Kept) (rows : Rows) → Each (λ row. finite.contains_key rows row.key ≡ true) new → finite.len (put_all (map (stored_change form before) (map Put new)) rows) ≡ finite.len rows
same_count form before [] rows h = refl
same_count form before (row ∷ new) rows h =
    let after = put_stored (stored_change form before (Put row)) rows in
    let one : finite.len after ≡ finite.len rows = finite.len-insert int_cmp_total rows row.key _ ∙ ap (λ b. cond b (finite.len rows) (finite.len rows + 1)) h.0 in
    same_count form before new after (still_there rows row.key _ new h.1) ∙ one

-- Rows that are removed leave no more.
pub removed_count : (form : Form) (before : Rows) (gone : List Kept) (rows : Rows) → finite.len (put_all (map (stored_change form before) (map (λ row. Remove row.key) gone)) rows) ≤ finite.len rows
removed_count form before [] rows = omega arith
removed_count form before (row ∷ gone) rows =
    let after = finite.remove rows row.key in
    let one : finite.len after ≤ finite.len rows = subst (λ n. n ≤ finite.len rows) (sym (finite.len-remove int_cmp_total rows row.key)) (elim (finite.contains_key rows row.key) as (λ b. cond b (finite.len rows - 1) (finite.len rows) ≤ finite.len rows) [ true ↦ omega arith | false ↦ omega arith ]) in
    let rest = removed_count form before gone after in
    omega (arith, one, rest)
