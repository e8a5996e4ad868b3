-- Rows that meet each constraint have no cause.
use Rattle.std.proofs.Common.{◌≡◌, ◌∙◌, ℕ, ℤ, List, [], ◌∷◌, Bool, true, false, cond, Option, Some, None, filter, is_some, map, ap, refl, sym, true≢false, arith, int_eq, option_and_then, option_map}
use Rattle.std.specs.List.{cons_option}
use Rattle.std.specs.Map.{keys_of as keys_under, lookup}
use Rattle.std.specs.Option.{option_or}
use Rattle.std.proofs.lemmas.Bool.Decides.{Decides-int_eq}
use Rattle.constraint.specs.Valid.{row_broken, unique_broken}
use Rattle.sql_base.specs.Laws.{either_none}
use Rattle.sql_eval.specs.Row.{least_clash, values_of}
use Rattle.row_rules.specs.Accept.{half_cause, has_clash, keys_of, present, unique_cause}
use Rattle.row_rules.specs.Causes.{broken_name, constraint_cause, row_cause}
use Rattle.row_rules.specs.Inner.{half_broken}
use Rattle.row_rules.specs.Laws.{ValidRowsHaveNoCause}
use Rattle.row_rules.specs.Outcome.{first_some}
use Rattle.row_rules.specs.Site.{name_of, shape_of}
use Rattle.row_rules.specs.Steps.{new_half_cause}
use Rattle.row_rules.specs.Words.{C23505, Kept, New, RowFault, Table, Unique, Value, least, row_fault}

-- ---- keys of which none passes

no_least : (keys : List ℤ) (named : ℤ → List ℕ × ℤ) → option_map named (least keys) ≡ None → keys ≡ []
no_least [] named h = refl
no_least (key ∷ keys) named h = cc

module _ (p : ℤ → Bool) where
  -- A key that is found among keys of which none passes doesn't pass.
  found_fails : (key : ℤ) (entries : List (ℤ × List Value)) → filter p (keys_under entries) ≡ [] →
      is_some (lookup (int_eq key) entries) ≡ true → p key ≡ false
  found_fails key [] none found = cc
  found_fails key (entry ∷ entries) none found =
      by_tests (int_eq key entry.0) refl (p entry.0) refl none found (found_fails key entries)
    where
      passing : List ℤ
      passing = filter p (keys_under entries)

      by_tests : (b : Bool) → int_eq key entry.0 ≡ b → (c : Bool) → p entry.0 ≡ c → cond c (entry.0 ∷ passing) passing ≡ [] →
          is_some (cond b (Some entry.1) (lookup (int_eq key) entries)) ≡ true →
          (passing ≡ [] → is_some (lookup (int_eq key) entries) ≡ true → p key ≡ false) → p key ≡ false
      by_tests b e true is none found rest = cc
      by_tests true e false is none found rest =
          let same : key ≡ entry.0 = grind (arith, Decides-int_eq key entry.0) in
          ap p same ∙ is
      by_tests false e false is none found rest = rest none found

  -- Where each key that passes is found among keys of which none passes, there is no such key.
  none_passes : (entries : List (ℤ × List Value)) → filter p (keys_under entries) ≡ [] →
      ((key : ℤ) → p key ≡ true → is_some (lookup (int_eq key) entries) ≡ true) → (keys : List ℤ) → filter p keys ≡ []
  none_passes entries none found [] = refl
  none_passes entries none found (key ∷ keys) = by_test (p key) refl (none_passes entries none found keys)
    where
      by_test : (b : Bool) → p key ≡ b → filter p keys ≡ [] → cond b (key ∷ filter p keys) (filter p keys) ≡ []
      by_test true is rest = absurd (true≢false (sym is ∙ found_fails key entries none (found key is)))
      by_test false is rest = rest

-- A key that clashes is found.
clash_found : (unique : Unique) (entries : List (ℤ × List Value)) (key : ℤ) → has_clash unique entries key ≡ true →
    is_some (lookup (int_eq key) entries) ≡ true
clash_found unique entries key h = by_found (lookup (int_eq key) entries) h
  where
    by_found : (o : Option (List Value)) → is_some {T = ℤ} (elim o [
      | None ↦ None
      | Some row ↦ least_clash (values_of unique row) (map (λ (r : ℤ × List Value). (r.0, values_of unique r.1)) entries) key
    ]) ≡ true → is_some o ≡ true
    by_found None h = cc
    by_found (Some row) h = refl

-- ---- rows that meet each constraint

-- Where the one is of none of these, so is the other.
first_none : {A B C : Type 0} (f : A → Option B) (g : A → Option C) → ((x : A) → g x ≡ None → f x ≡ None) → (xs : List A) →
    first_some g xs ≡ None → first_some f xs ≡ None
first_none f g so [] h = refl
first_none f g so (x ∷ xs) h =
    let parts = either_none (g x) (first_some g xs) h in
    ap (λ o. option_or o (first_some f xs)) (so x parts.0) ∙ first_none f g so xs parts.1

pub first_present : (table : Table) (rows : List Kept) →
    first_some (half_broken table) rows ≡ first_some (row_broken (name_of table) (shape_of table)) (present New rows)
first_present table [] = refl
first_present table (row ∷ rows) = by_half row.halves.new (first_present table rows)
  where
    broken : ℤ × List Value → Option (List ℕ × ℤ)
    broken = row_broken (name_of table) (shape_of table)

    by_half : (o : Option (List Value)) → first_some (half_broken table) rows ≡ first_some broken (present New rows) →
        option_or (option_and_then (λ values. broken (row.key, values)) o) (first_some (half_broken table) rows)
        ≡ first_some broken (cons_option (option_map (λ values. (row.key, values)) o) (present New rows))
    by_half None rest = rest
    by_half (Some values) rest = ap (option_or (broken (row.key, values))) rest

half_sound : (table : Table) (row : Kept) → half_broken table row ≡ None → new_half_cause table row ≡ None
half_sound table row = by_half row.halves.new
  where
    by_fault : (o : Option RowFault) →
        option_map {U = List ℕ × ℤ} (λ fault. (broken_name table fault, row.key)) o ≡ None →
        option_map (row_cause table row.key) o ≡ None
    by_fault None h = refl
    by_fault (Some fault) h = cc

    by_half : (o : Option (List Value)) →
        option_and_then (λ values. row_broken (name_of table) (shape_of table) (row.key, values)) o ≡ None →
        option_and_then (half_cause table row.key) o ≡ None
    by_half None h = refl
    by_half (Some values) h = by_fault (row_fault (shape_of table) values) h

unique_sound : (rows : List Kept) (unique : Unique) → unique_broken (present New rows) unique ≡ None →
    unique_cause (present New rows) (keys_of rows) unique ≡ None
unique_sound rows unique h =
    let entries = present New rows in
    let clashes = has_clash unique entries in
    let none = no_least (filter clashes (keys_under entries)) (λ key. (unique.name, key)) h in
    ap (λ keys. option_map (constraint_cause C23505 unique.name) (least keys))
    (none_passes clashes entries none (clash_found unique entries) (keys_of rows))

pub valid_rows_have_no_cause : ValidRowsHaveNoCause
valid_rows_have_no_cause table rows h =
    let entries = present New rows in
    let uniques = (shape_of table).uniques in
    let parts =
    either_none (first_some (row_broken (name_of table) (shape_of table)) entries) (first_some (unique_broken entries) uniques) h in (
      first_none (new_half_cause table) (half_broken table) (half_sound table) rows (first_present table rows ∙ parts.0),
      first_none (unique_cause entries (keys_of rows)) (unique_broken entries) (unique_sound rows) uniques parts.1,
    )
