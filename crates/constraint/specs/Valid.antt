-- Which rows of one table meet its constraints.
--
-- That rows meet NOT NULL, CHECK and unique constraints: PostgreSQL manual, 5.4 Constraints. Which of several that aren't met is named, and with which key, is our own.
use Rattle.std.specs.Prelude.{ℕ, ℤ, List, [], ◌∷◌, Bool, Option, Some, None, is_some, if◌then◌else◌}
use Rattle.std.specs.Int.{int_min}
use Rattle.std.specs.List.{filter}
use Rattle.std.specs.Map.{keys_of}
use Rattle.std.specs.Option.{option_map, option_or}
use Rattle.sql_base.specs.declared.shapes.Shape.{Shape}
use Rattle.sql_base.specs.declared.shapes.Unique.{Unique}
use Rattle.sql_base.specs.declared.values.Value.{Value}
use Rattle.sql_eval.specs.Row.{clash, least, row_fault}
use Rattle.constraint.specs.Names.{broken_name}

-- The first that there is, of these in their order.
abbrev pub first_some : {A B : Type 0} → (A → Option B) → List A → Option B
first_some of [] = None
first_some of (x ∷ xs) = option_or (of x) (first_some of xs)

-- The least key, where this one counts or doesn't beside the least of others.
abbrev pub with_least : ℤ → Bool → Option ℤ → Option ℤ
with_least key counts least = if counts then Some (elim least [ None ↦ key | Some l ↦ int_min key l ]) else least

-- ---- one row

-- The constraint that a row of the table of this name doesn't meet, with the row's key.
abbrev pub row_broken : List ℕ → Shape → ℤ × List Value → Option (List ℕ × ℤ)
row_broken table shape row = option_map (λ fault. (broken_name table shape fault, row.0)) (row_fault shape row.1)

-- ---- rows beside one another

-- Another row has the values of this key's row in the columns of the unique constraint.
abbrev pub has_equal : Unique → List (ℤ × List Value) → ℤ → Bool
has_equal unique rows key = is_some (clash unique rows key)

-- The least key that has an equal.
abbrev pub least_equal : Unique → List (ℤ × List Value) → Option ℤ
least_equal unique rows = least (filter (has_equal unique rows) (keys_of rows))

-- The unique constraint, with that key.
abbrev pub unique_broken : List (ℤ × List Value) → Unique → Option (List ℕ × ℤ)
unique_broken rows unique = option_map (λ key. (unique.name, key)) (least_equal unique rows)

-- ---- all of them

-- The constraint that rows, by ascending key, don't meet, and a key: the first fault of a row, one row after another; else the first unique constraint with the least key that has an equal.
abbrev pub invalid : List ℕ → Shape → List (ℤ × List Value) → Option (List ℕ × ℤ)
invalid table shape rows =
    option_or (first_some (row_broken table shape) rows) (first_some (unique_broken rows) shape.uniques)
