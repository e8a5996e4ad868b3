-- What the layer's own steps stand for. No public contract rests on these words.
use Rattle.std.specs.Prelude.{◌≡◌, ℕ, ℤ, List, [], Bool, false, not, ◌&&◌, ◌||◌, Option, Some, Result, Ok, length, map, nat_lt, unwrap_or}
use Rattle.std.specs.Borrow.{Bor}
use Rattle.std.specs.Fn.{FnReturnsAt, Shared}
use Rattle.std.specs.List.{filter, list_any}
use Rattle.std.specs.Map.{lookup}
use Rattle.std.specs.Option.{option_and_then, option_map, option_map_or, option_or}
use Rattle.std.specs.Ordering.{int_eq}
use Rattle.std.specs.Str.{bytes_eq}
use Rattle.constraint.specs.Valid.{row_broken, unique_broken, with_least}
use Rattle.sql_base.specs.Outcome.{Gives}
use Rattle.sql_base.specs.declared.faults.EvalFault.TheVariants as eval_fault
use Rattle.sql_base.specs.declared.memory.NoMemory.{NoMemory}
use Rattle.sql_eval.specs.Row.{all_alike, least, values_of}
use Rattle.row_rules.specs.Accept.{clashes, is_taken, keys_of, other_alike, present, row_weight, table_there}
use Rattle.row_rules.specs.Causes.{broken_name, constraint_cause, row_code, row_error, value_cause}
use Rattle.row_rules.specs.Changes.{after_changes, altered, keys_changed, matching, passes, put_all}
use Rattle.row_rules.specs.Outcome.{Answers, first_some, guarded, map_fault, without}
use Rattle.row_rules.specs.Settle.{condition_error, null_key, row_completed, row_of_values_error, rows_valued}
use Rattle.row_rules.specs.Show.{picked, row_asked}
use Rattle.row_rules.specs.Site.{Site, half, halves_on, name_of, other, other_half, shape_of, shown, touched}
use Rattle.row_rules.specs.Words.{C23505, Cause, Change, Code, EvalFault, Expr, Halves, Items, Job, Kept, New, Put, Remove, Shape, Side, SqlError, Table, Unique, Value, and_then, every, row_fault}
use Rattle.row_rules.specs.Words.job
use Rattle.row_rules.specs.declared.stops.Stop.{Stop}

-- What a half of a row of this table doesn't meet: the code and the constraint's name.
abbrev pub half_fault : Table → List Value → Option (Code × List ℕ)
half_fault table values = option_map (λ fault. (row_code fault, broken_name table fault)) (row_fault (shape_of table) values)

-- Whether a row isn't that of this key, and has these values in the columns of a unique constraint.
abbrev pub other_has : Unique → Side → ℤ → List Value → Kept → Bool
other_has unique side key values row =
    option_map_or (λ others. not (int_eq row.key key) && all_alike (values_of unique values) (values_of unique others)) (half side row.halves) false

-- What an evaluation comes to as a cause in the row of a key: whatever it answers, want of memory apart, its fault is the cause.
abbrev pub IsInRow : {T : Type 0} → ℤ → Result T EvalFault → Result T (Stop Cause) → Type 0
IsInRow {T} key outcome result = (wanted : Result T EvalFault) → Gives eval_fault.NoMemory wanted outcome → Answers (map_fault (value_cause key) wanted) result

abbrev pub IsInStatement : {T : Type 0} → ℤ → Result T EvalFault → Result T (Stop SqlError) → Type 0
IsInStatement {T} key outcome result = (wanted : Result T EvalFault) → Gives eval_fault.NoMemory wanted outcome → Answers (map_fault (λ fault. row_error (value_cause key fault)) wanted) result

-- Calls that answer a function of their argument, and what a list of their answers comes to, for every such function.
module _ {F A : Type 0} where
  abbrev pub IsPuts : Shared F (Bor A × Unit {0}) (Result Kept (Stop Cause)) → F → List A → Result (List Change) (Stop Cause) → Type 0
  IsPuts call f xs result = (g : A → Result Kept Cause) → ((x : A) (r : Result Kept (Stop Cause)) → FnReturnsAt call f x r → Answers (g x) r) → Answers (put_all (every (map g xs))) result

  abbrev pub IsFirst : {B : Type 0} → Shared F (Bor A × Unit {0}) (Result (Option B) NoMemory) → F → List A → Option B → Type 0
  IsFirst {B} call f xs found = (g : A → Option B) → ((x : A) (y : Option B) → FnReturnsAt call f x (Ok y) → y ≡ g x) → found ≡ first_some g xs

-- Whether a row passes a WHERE, or the fault as its cause.
abbrev pub has_passed : Site → Option Expr → Kept → Result Bool Cause
has_passed site condition row = map_fault (value_cause row.key) (passes (shape_of site.here) condition (shown site row.halves))

-- What a DELETE does.
abbrev pub removed : Site → Option Expr → List Kept → Result (List Change) Cause
removed site condition rows = and_then (matching site condition rows) (λ rows. Ok (map (λ row. Remove row.key) rows))

-- The row of a key with this half on the written side, and with its other half.
abbrev pub made : Site → ℤ → ℕ → Option (List Value) → List Value → Result Kept Cause
made site key lost before half =
    and_then (map_fault (value_cause key) (other_half site half before)) (λ other. Ok (record { key = key; halves = halves_on site.side half other; lost = lost }))

-- The halves that a write to a row begins with.
abbrev pub begun : Site → Kept → Result Halves Cause
begun site row = map_fault (value_cause row.key) (touched site row.halves)

-- The half that the assignments of an UPDATE make.
abbrev pub altered_half : Site → List (ℕ × Expr) → Kept → Halves → Result (List Value) Cause
altered_half site sets row halves = map_fault (value_cause row.key) (altered (shape_of site.here) sets (unwrap_or (half site.side halves) []))

-- ---- SELECT

abbrev pub passes_asked : Site → Option Expr → Kept → Result Bool SqlError
passes_asked site condition row = map_fault (λ fault. row_error (value_cause row.key fault)) (passes (shape_of site.here) condition (shown site row.halves))

abbrev pub values_asked : Site → Items → Kept → Result (List Value) SqlError
values_asked site items row = map_fault (λ fault. row_error (value_cause row.key fault)) (picked items (shape_of site.here) (shown site row.halves))

abbrev pub passed_asked : Site → Items → ℕ → Kept → Result (Option (List Value)) SqlError
passed_asked site items room row = and_then (row_asked site items room row) (λ values. Ok (Some values))

-- ---- COMPLETE

-- The constraint that a row's new half doesn't meet, with the key.
abbrev pub half_broken : Table → Kept → Option (List ℕ × ℤ)
half_broken table row = option_and_then (λ values. row_broken (name_of table) (shape_of table) (row.key, values)) row.halves.new

-- The first unique constraint with the least key that has an equal.
abbrev pub uniques_broken : Table → List Kept → Option (List ℕ × ℤ)
uniques_broken table rows = first_some (unique_broken (present New rows)) (shape_of table).uniques

-- ---- names, types and values

abbrev pub is_among : List ℕ → List (List ℕ) → Bool
is_among name names = list_any (bytes_eq name) names

-- What an UPDATE of these assignments does.
abbrev pub altering : Shape → List (ℕ × Expr) → Option Expr → Result Job SqlError
altering shape sets condition = without (condition_error shape condition) (job.Alter sets condition)

-- The rows of an INSERT with these values, where no key is NULL.
abbrev pub rows_completed : Table → List ℕ → List (List Value) → Result (List (List Value)) SqlError
rows_completed table places valued =
    let all = map (row_completed (shape_of table) places) valued in
    without (first_some (null_key table) all) all

-- The rows of an INSERT for columns of these places.
abbrev pub rows_placed : Table → List ℕ → List (List Expr) → Result (List (List Value)) SqlError
rows_placed table places rows = guarded (first_some (row_of_values_error (shape_of table) places) rows) (rows_valued table places rows)

-- ---- all written rows together

abbrev pub without_key : ℤ → List Kept → List Kept
without_key key rows = filter (λ row. not (int_eq row.key key)) rows

-- Whether the row of this key among the written ones has the values of another written one, or of an older one of none of these keys.
abbrev pub clashes_beside : Unique → Side → List Kept → List Kept → List ℤ → ℤ → Bool
clashes_beside unique side written older keys key =
    option_map_or (λ values. list_any (other_has unique side key values) written || list_any (other_alike unique side values keys) older) (lookup (int_eq key) (present side written)) false

abbrev pub least_beside : Unique → Side → List Kept → List Kept → List ℤ → Option ℤ
least_beside unique side written older keys = least (filter (clashes_beside unique side written older keys) keys)

abbrev pub unique_beside : Side → List Kept → List Kept → List ℤ → Unique → Option Cause
unique_beside side written older keys unique =
    option_map (constraint_cause C23505 unique.name) (least_beside unique side written older keys)

abbrev pub on_beside : Option Table → Side → List Kept → List Kept → List ℤ → Option Cause
on_beside table side written older keys =
    option_and_then (λ table. first_some (unique_beside side written older keys) (shape_of table).uniques) table

abbrev pub all_beside : Site → List Kept → List Kept → List ℤ → Option Cause
all_beside site written older keys =
    option_or (on_beside (Some site.here) site.side written older keys) (on_beside (table_there site) (other site.side) written older keys)

-- The least taken key, where that of a change is looked at beside the least of others.
abbrev pub with_change : (ℤ → Bool) → Change → Option ℤ → Option ℤ
with_change taken (Put row) found = with_least row.key (taken row.key) found
with_change taken (Remove key) found = found

-- The least of the keys of these rows that is taken by an older row or twice among the new ones.
abbrev pub least_taken : List Kept → List Kept → List Kept → Option ℤ
least_taken older new rows = least (filter (is_taken older new) (keys_of rows))

abbrev pub table_has_uniques : Table → Bool
table_has_uniques table = nat_lt 0 (length (shape_of table).uniques)

abbrev pub has_uniques : Site → Bool
has_uniques site = table_has_uniques site.here || option_map_or (λ beside. table_has_uniques beside.table) site.there false

abbrev pub clashes_after : Site → List Kept → List Change → Option Cause
clashes_after site older changes = clashes site (after_changes changes older) (keys_changed changes)

abbrev pub change_weight : Change → ℕ
change_weight (Put row) = row_weight row
change_weight (Remove key) = 0
