-- The names and types of a statement, and the values of an INSERT: what it does to its rows, or the first fault in written order.
--
-- The orders of looking are our own. That a column of an INSERT that isn't listed takes its default: PostgreSQL manual, INSERT.
use Rattle.std.specs.Prelude.{ℕ, List, [], ◌==◌, Option, Some, None, Result, Ok, Err, length, map, slice_get, slice_index_or, take, unwrap_or, if◌then◌else◌}
use Rattle.std.specs.List.{enumerate_from, list_any, position, zip}
use Rattle.std.specs.Map.{lookup}
use Rattle.std.specs.Option.{option_or, ok_or}
use Rattle.std.specs.Str.{bytes_eq}
use Rattle.sql_eval.specs.Typing.{fits as type_fits}
use Rattle.sql_eval.specs.Value.{is_null}
use Rattle.row_rules.specs.Causes.{bare_error, named_error, no_value, not_null_name, syntax, untyped}
use Rattle.row_rules.specs.Outcome.{first_some, guarded, map_fault, without}
use Rattle.row_rules.specs.Site.{shape_of}
use Rattle.row_rules.specs.Words.{All, Boolean, C0A000, C23502, C42701, C42703, C42804, Column, Expr, Items, Job, Listed, Null, Shape, SqlError, Table, Ty, Value, and_then, eval, every, type_of}
use Rattle.row_rules.specs.Words.job

-- ---- types

-- Why an expression doesn't stand for a value of this type over a shape: its own fault, or its type.
abbrev pub mistyped : Shape → Ty → Expr → Option SqlError
mistyped shape ty expr = elim (type_of shape expr) [
  | Ok found ↦ if type_fits ty found then None else Some (bare_error C42804)
  | Err fault ↦ Some (untyped fault)
]

abbrev pub has_no_type : Shape → Expr → Option SqlError
has_no_type shape expr = elim (type_of shape expr) [ Ok found ↦ None | Err fault ↦ Some (untyped fault) ]

-- A WHERE is boolean.
abbrev pub condition_error : Shape → Option Expr → Option SqlError
condition_error shape None = None
condition_error shape (Some condition) = mistyped shape Boolean condition

-- ---- columns that are named

-- The place of the column of a name.
abbrev pub place_named : Shape → List ℕ → Option ℕ
place_named shape name = position (λ column. bytes_eq column.name name) shape.columns

-- The place of a column that is named among others, the place of which in their list comes first: 42703 where there is none, 42701 where it was named before.
abbrev pub named_once : Shape → List (List ℕ) → ℕ × List ℕ → Result ℕ SqlError
named_once shape names name =
    and_then (ok_or (place_named shape name.1) (named_error C42703 name.1))
    (λ place. if list_any (bytes_eq name.1) (take name.0 names) then Err (named_error C42701 name.1) else Ok place)

-- ---- INSERT

-- The places of the listed columns.
abbrev pub places_listed : Shape → List (List ℕ) → Result (List ℕ) SqlError
places_listed shape names = every (map (named_once shape names) (enumerate_from 0 names))

-- In VALUES every column is unknown.
abbrev pub no_columns : Shape
no_columns = record { columns = []; key = 0; checks = []; uniques = [] }

-- Why an expression over a shape, which may have no columns, doesn't stand for a value of the column of this place.
abbrev pub value_error : Shape → Shape → ℕ × Expr → Option SqlError
value_error over shape value = elim (slice_get shape.columns value.0) [ None ↦ None | Some column ↦ mistyped over column.ty value.1 ]

-- A row of VALUES has one value for each listed column, each of the column's type.
abbrev pub row_of_values_error : Shape → List ℕ → List Expr → Option SqlError
row_of_values_error shape places row =
    if length places == length row then first_some (value_error no_columns shape) (zip places row) else Some syntax

-- The values of a row of VALUES, from left to right.
abbrev pub row_evaluated : List Expr → Result (List Value) SqlError
row_evaluated row = map_fault no_value (every (map (eval no_columns []) row))

-- The value of a column in a new row: the one that is given for its place, else its default.
abbrev pub value_or_default : List (ℕ × Value) → ℕ × Column → Value
value_or_default given column = unwrap_or (lookup (λ at. at == column.0) given) column.1.default

abbrev pub row_completed : Shape → List ℕ → List Value → List Value
row_completed shape places values = map (value_or_default (zip places values)) (enumerate_from 0 shape.columns)

-- The key of a row is NULL.
abbrev pub null_key : Table → List Value → Option SqlError
null_key table row = if is_null (slice_index_or row (shape_of table).key Null) then Some (named_error C23502 (not_null_name table (shape_of table).key)) else None

-- All values of all rows are evaluated first, in written order; then the first key that is NULL is refused.
abbrev pub rows_valued : Table → List ℕ → List (List Expr) → Result (List (List Value)) SqlError
rows_valued table places rows =
    and_then (every (map row_evaluated rows)) (λ valued.
    let all = map (row_completed (shape_of table) places) valued in
    without (first_some (null_key table) all) all)

-- What an INSERT puts: first its columns, then its rows, then their values.
abbrev pub rows_inserted : Table → List (List ℕ) → List (List Expr) → Result (List (List Value)) SqlError
rows_inserted table names rows =
    and_then (places_listed (shape_of table) names) (λ places.
    guarded (first_some (row_of_values_error (shape_of table) places) rows) (rows_valued table places rows))

abbrev pub insert_job : Table → List (List ℕ) → List (List Expr) → Result Job SqlError
insert_job table names rows = and_then (rows_inserted table names rows) (λ all. Ok (job.Put all))

-- ---- UPDATE

-- An assignment, whose place in the list comes first: its column, which isn't the key, then its expression, then the expression's type against the column.
abbrev pub set_settled : Shape → List (List ℕ) → ℕ × (List ℕ × Expr) → Result (ℕ × Expr) SqlError
set_settled shape names set =
    and_then (named_once shape names (set.0, set.1.0)) (λ place.
    if place == shape.key then Err (named_error C0A000 set.1.0)
    else without (value_error shape shape (place, set.1.1)) (place, set.1.1))

abbrev pub sets_settled : Shape → List (List ℕ × Expr) → Result (List (ℕ × Expr)) SqlError
sets_settled shape sets = every (map (set_settled shape (map (λ set. set.0) sets)) (enumerate_from 0 sets))

-- What an UPDATE does: its assignments, and then the WHERE.
abbrev pub update_job : Shape → List (List ℕ × Expr) → Option Expr → Result Job SqlError
update_job shape sets condition =
    and_then (sets_settled shape sets) (λ sets. without (condition_error shape condition) (job.Alter sets condition))

-- ---- DELETE

abbrev pub delete_job : Shape → Option Expr → Result Job SqlError
delete_job shape condition = without (condition_error shape condition) (job.Remove condition)

-- ---- SELECT

abbrev pub items_error : Shape → Items → Option SqlError
items_error shape All = None
items_error shape (Listed items) = first_some (has_no_type shape) items

-- Each item has a type, and the WHERE is boolean.
abbrev pub query_error : Shape → Items → Option Expr → Option SqlError
query_error shape items condition = option_or (items_error shape items) (condition_error shape condition)
