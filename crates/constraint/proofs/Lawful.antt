-- No constraint is told exactly of valid rows.
use Rattle.std.proofs.Common.{◌≡◌, ◌∙◌, ℤ, List, [], ◌∷◌, Bool, true, false, ◌&&◌, cond, not, Option, Some, None, refl, ap}
use Rattle.std.specs.Prelude.{is_none}
use Rattle.std.specs.List.{filter, list_all}
use Rattle.std.specs.Map.{keys_of}
use Rattle.std.specs.Option.{option_map, option_or}
use Rattle.sql_base.specs.declared.shapes.Unique.{Unique}
use Rattle.sql_base.specs.declared.values.Value.{Value}
use Rattle.sql_eval.specs.Row.{least, row_fault}
use Rattle.constraint.specs.Laws.{NoneIsToldOfValidRows, have_no_clash, have_no_fault}
use Rattle.constraint.specs.Names.{broken_name}
use Rattle.constraint.specs.Valid.{first_some, has_equal, least_equal, row_broken, unique_broken}

neither : {T : Type 0} (a b : Option T) → is_none (option_or a b) ≡ (is_none a && is_none b)
neither None b = refl
neither (Some x) b = refl

mapped : {A B : Type 0} (f : A → B) (o : Option A) → is_none (option_map f o) ≡ is_none o
mapped f None = refl
mapped f (Some x) = refl

-- none is the first, where each is none
all_none : {A B : Type 0} (f : A → Option B) (test : A → Bool) → ((x : A) → is_none (f x) ≡ test x) → (xs : List A) → is_none (first_some f xs) ≡ list_all test xs
all_none f test same [] = refl
all_none f test same (x ∷ xs) = neither (f x) (first_some f xs) ∙ ap (λ a. a && is_none (first_some f xs)) (same x) ∙ ap (λ b. test x && b) (all_none f test same xs)

-- no key is the least, where none passes
none_least : (test : ℤ → Bool) (keys : List ℤ) → is_none (least (filter test keys)) ≡ list_all (λ key. not (test key)) keys
none_least test [] = refl
none_least test (key ∷ keys) = by_test (test key) (none_least test keys)
  where
    by_test : (b : Bool) → is_none (least (filter test keys)) ≡ list_all (λ key. not (test key)) keys
        → is_none (least (cond b (key ∷ filter test keys) (filter test keys))) ≡ (not b && list_all (λ key. not (test key)) keys)
    by_test true later = refl
    by_test false later = later

pub none_is_told_of_valid_rows : NoneIsToldOfValidRows
none_is_told_of_valid_rows table shape rows =
    neither (first_some (row_broken table shape) rows) (first_some (unique_broken rows) shape.uniques)
    ∙ ap (λ a. a && is_none (first_some (unique_broken rows) shape.uniques)) (all_none (row_broken table shape) (λ row. is_none (row_fault shape row.1)) no_fault rows)
    ∙ ap (λ b. have_no_fault shape rows && b) (all_none (unique_broken rows) (have_no_clash rows) no_clash shape.uniques)
  where
    no_fault : (row : ℤ × List Value) → is_none (row_broken table shape row) ≡ is_none (row_fault shape row.1)
    no_fault row = mapped (λ fault. (broken_name table shape fault, row.0)) (row_fault shape row.1)

    no_clash : (unique : Unique) → is_none (unique_broken rows unique) ≡ have_no_clash rows unique
    no_clash unique = mapped (λ key. (unique.name, key)) (least_equal unique rows) ∙ none_least (has_equal unique rows) (keys_of rows)
