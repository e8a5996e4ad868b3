-- Which written rows are accepted.
--
-- That a row with NULL in a NOT NULL column, with a check that is false, with a key that another row has, or with the same values, none of them NULL, as another row in the columns of a unique constraint isn't accepted: PostgreSQL manual, 5.4 Constraints. That it has to be accepted by both versions, and the order of these causes, are our own.
use Rattle.std.specs.Prelude.{ℕ, ◌+◌, ℤ, List, Bool, false, not, ◌&&◌, ◌||◌, Option, Some, None, Result, is_some, length, map, nat_lt, sum_by, if◌then◌else◌}
use Rattle.std.specs.List.{filter, filter_map, list_any}
use Rattle.std.specs.Option.{option_and_then, option_map, option_map_or, option_or}
use Rattle.std.specs.Ordering.{int_eq}
use Rattle.sql_eval.specs.Row.{all_alike, values_of}
use Rattle.row_rules.specs.Causes.{constraint_cause, heavy_cause, max_weight, row_cause, taken_key}
use Rattle.row_rules.specs.Outcome.{first_some, without}
use Rattle.row_rules.specs.Site.{Site, half, other, shape_of}
use Rattle.row_rules.specs.Words.{C23505, Cause, Kept, Side, Table, Unique, Value, clash, least, row_fault, weight}

-- ---- one row

abbrev pub half_cause : Table → ℤ → List Value → Option Cause
half_cause table key values = option_map (row_cause table key) (row_fault (shape_of table) values)

-- The same of a half that may not be there, of a table that this side may not have.
abbrev pub side_cause : Option Table → ℤ → Option (List Value) → Option Cause
side_cause table key values = option_and_then (λ table. option_and_then (half_cause table key) values) table

abbrev pub is_heavy : Option (List Value) → Bool
is_heavy values = option_map_or (λ values. nat_lt max_weight (weight values)) values false

abbrev pub weight_cause : Kept → Option Cause
weight_cause row = if is_heavy row.halves.old || is_heavy row.halves.new then Some (heavy_cause row.key) else None

-- What the other version has of the table, where both have it.
abbrev pub table_there : Site → Option Table
table_there site = option_map (λ beside. beside.table) site.there

-- What is wrong with a row that is written: a fault of the written side's half, then one of the other half, then its weight.
abbrev pub wrong : Site → Kept → Option Cause
wrong site row =
    option_or (side_cause (Some site.here) row.key (half site.side row.halves))
    (option_or (side_cause (table_there site) row.key (half (other site.side) row.halves)) (weight_cause row))

-- The row, where nothing is wrong with it.
abbrev pub sound : Site → Kept → Result Kept Cause
sound site row = without (wrong site row) row

-- ---- all written rows together

abbrev pub keys_of : List Kept → List ℤ
keys_of rows = map (λ row. row.key) rows

abbrev pub has_key : ℤ → List Kept → Bool
has_key key rows = list_any (λ row. int_eq key row.key) rows

-- The number of rows of this key.
abbrev pub times : ℤ → List Kept → ℕ
times key rows = length (filter (λ row. int_eq key row.key) rows)

-- Whether an older row has the key of a new one, or another new one has it.
abbrev pub is_taken : List Kept → List Kept → ℤ → Bool
is_taken older new key = has_key key older || nat_lt 1 (times key new)

-- The least key of new rows of which that is so.
abbrev pub key_cause : Table → List Kept → List Kept → Option Cause
key_cause table older new = option_map (taken_key table) (least (filter (is_taken older new) (keys_of new)))

-- The halves of a side that there are, by key.
abbrev pub present : Side → List Kept → List (ℤ × List Value)
present side rows = filter_map (λ row. option_map (λ values. (row.key, values)) (half side row.halves)) rows

-- Whether a row has none of these keys, and in its half of this side values like these, none of them NULL, in the columns of the unique constraint.
abbrev pub other_alike : Unique → Side → List Value → List ℤ → Kept → Bool
other_alike unique side values keys row =
    option_map_or (λ others. not (list_any (int_eq row.key) keys) && all_alike (values_of unique values) (values_of unique others)) (half side row.halves) false

-- Whether the row of this key has the values of another one.
abbrev pub has_clash : Unique → List (ℤ × List Value) → ℤ → Bool
has_clash unique entries key = is_some (clash unique entries key)

-- The least of these keys whose row has the same values, none of them NULL, as another row in the columns of the unique constraint.
abbrev pub unique_cause : List (ℤ × List Value) → List ℤ → Unique → Option Cause
unique_cause entries keys unique =
    option_map (constraint_cause C23505 unique.name) (least (filter (has_clash unique entries) keys))

-- Of the table's unique constraints, in their order; of a side that may not have the table.
abbrev pub clashes_on : Option Table → Side → List Kept → List ℤ → Option Cause
clashes_on table side rows keys =
    option_and_then (λ table. first_some (unique_cause (present side rows) keys) (shape_of table).uniques) table

-- Over the rows as they would be: a row of one of these keys has the values of another one, through the written side first.
abbrev pub clashes : Site → List Kept → List ℤ → Option Cause
clashes site rows keys =
    option_or (clashes_on (Some site.here) site.side rows keys) (clashes_on (table_there site) (other site.side) rows keys)

-- ---- weights

abbrev pub half_weight : Option (List Value) → ℕ
half_weight values = option_map_or weight values 0

-- The weight of both halves of a row, and its lost weight.
abbrev pub row_weight : Kept → ℕ
row_weight row = half_weight row.halves.old + half_weight row.halves.new + row.lost

abbrev pub total_weight : List Kept → ℕ
total_weight rows = sum_by row_weight rows
