-- What a statement or a batch does to the rows of its table, row by row, and what is looked at when all rows are made.
use Rattle.std.specs.Prelude.{ℕ, ℤ, List, [], ◌∷◌, ◌==◌, Bool, true, Option, Some, None, Result, Ok, map, nat_lt, not, unwrap_or, if◌then◌else◌}
use Rattle.std.specs.List.{enumerate_from, filter, filter_map}
use Rattle.std.specs.Map.{lookup}
use Rattle.std.specs.Option.{option_map, option_or}
use Rattle.std.specs.Ordering.{int_cmp, int_eq, match_ordering}
use Rattle.sql_eval.specs.Value.{is_truth}
use Rattle.row_rules.specs.Accept.{clashes, key_cause, sound, total_weight}
use Rattle.row_rules.specs.Causes.{heavy_statement, max_total, row_error, value_cause}
use Rattle.row_rules.specs.Outcome.{map_fault}
use Rattle.row_rules.specs.Site.{Site, half, halves_on, key_of, other, other_half, shape_of, shown, touched}
use Rattle.row_rules.specs.Words.{Cause, Change, EvalFault, Expr, Halves, Job, Kept, Put, Remove, Shape, SqlError, Value, and_then, eval, every}
use Rattle.row_rules.specs.Words.job

-- ---- one row

-- The row of a key with this half on the written side. The other half is made with the one that it had before; then the row is looked at.
abbrev pub remade : Site → ℤ → ℕ → Option (List Value) → List Value → Result Kept Cause
remade site key lost before half =
    and_then (map_fault (value_cause key) (other_half site half before))
    (λ other. sound site (record { key = key; halves = halves_on site.side half other; lost = lost }))

-- A new row of these values.
abbrev pub new_row : Site → List Value → Result Kept Cause
new_row site values = remade site (key_of (shape_of site.here) values) site.lost None values

-- ---- UPDATE

-- The value of a place: the new one, where it is given one.
abbrev pub value_given : List (ℕ × Value) → ℕ × Value → Value
value_given given place = unwrap_or (lookup (λ at. at == place.0) given) place.1

-- The row with these values in the places that they are given for.
abbrev pub with_given : List (ℕ × Value) → List Value → List Value
with_given given row = map (value_given given) (enumerate_from 0 row)

-- Each assignment is evaluated over the row as it was, in written order; none sees the result of another.
abbrev pub assigned : Shape → List Value → ℕ × Expr → Result (ℕ × Value) EvalFault
assigned shape row set = and_then (eval shape row set.1) (λ value. Ok (set.0, value))

abbrev pub altered : Shape → List (ℕ × Expr) → List Value → Result (List Value) EvalFault
altered shape sets row = and_then (every (map (assigned shape row) sets)) (λ given. Ok (with_given given row))

-- A row that is updated: what the write begins with, the assignments over the written half as it then is, and the row with the result.
abbrev pub altered_halves : Site → List (ℕ × Expr) → Kept → Halves → Result Kept Cause
altered_halves site sets row halves =
    and_then (map_fault (value_cause row.key) (altered (shape_of site.here) sets (unwrap_or (half site.side halves) [])))
    (λ values. remade site row.key row.lost (half (other site.side) halves) values)

abbrev pub altered_row : Site → List (ℕ × Expr) → Kept → Result Kept Cause
altered_row site sets row =
    and_then (map_fault (value_cause row.key) (touched site row.halves)) (altered_halves site sets row)

-- ---- FILL

-- A row gets its new half, and is looked at as one that is written through the new version. Its old half stays.
abbrev pub filled_row : Site → Kept → Result Kept Cause
filled_row site row =
    and_then (map_fault (value_cause row.key) (touched site row.halves)) (λ halves. sound site (record row { halves = halves }))

-- ---- WHERE

-- Whether the WHERE is true of a row, where there is one. (PostgreSQL manual, 7.2.2 The WHERE Clause.)
abbrev pub passes : Shape → Option Expr → List Value → Result Bool EvalFault
passes shape None row = Ok true
passes shape (Some condition) row = and_then (eval shape row condition) (λ value. Ok (is_truth true value))

-- The row, where it passes.
abbrev pub row_passed : Site → Option Expr → Kept → Result (Option Kept) Cause
row_passed site condition row =
    and_then (map_fault (value_cause row.key) (passes (shape_of site.here) condition (shown site row.halves)))
    (λ passed. Ok (if passed then Some row else None))

-- The rows that pass, in their order; or the first fault.
abbrev pub matching : Site → Option Expr → List Kept → Result (List Kept) Cause
matching site condition rows =
    and_then (every (map (row_passed site condition) rows)) (λ passed. Ok (filter_map (λ row. row) passed))

-- ---- the changes

abbrev pub put_all : Result (List Kept) Cause → Result (List Change) Cause
put_all rows = and_then rows (λ rows. Ok (map Put rows))

-- What a job does to the rows of its table, in ascending key, and to an INSERT's as written: each row is made and looked at before the next one. Or the first cause that was found.
abbrev pub changes : Site → Job → List Kept → Result (List Change) Cause
changes site (job.Put rows) older = put_all (every (map (new_row site) rows))
changes site (job.Alter sets condition) older = put_all (and_then (matching site condition older) (λ rows. every (map (altered_row site sets) rows)))
changes site (job.Remove condition) older = and_then (matching site condition older) (λ rows. Ok (map (λ row. Remove row.key) rows))
changes site job.Fill older = put_all (every (map (filled_row site) older))

-- ---- the rows afterwards

abbrev pub key_changed : Change → ℤ
key_changed (Put row) = row.key
key_changed (Remove key) = key

abbrev pub keys_changed : List Change → List ℤ
keys_changed changes = map key_changed changes

abbrev pub row_put : Change → Option Kept
row_put (Put row) = Some row
row_put (Remove key) = None

-- The rows that changes leave written.
abbrev pub rows_put : List Change → List Kept
rows_put changes = filter_map row_put changes

-- These rows, which ascend by key, with one more in its place. It replaces a row of an equal key.
abbrev pub put_row : Kept → List Kept → List Kept
put_row row [] = row ∷ []
put_row row (first ∷ rows) = match_ordering (int_cmp row.key first.key) (row ∷ first ∷ rows) (row ∷ rows) (first ∷ put_row row rows)

abbrev pub after_change : Change → List Kept → List Kept
after_change (Put row) rows = put_row row rows
after_change (Remove key) rows = filter (λ row. not (int_eq row.key key)) rows

-- The rows of a table, which ascend by key, after these changes.
abbrev pub after_changes : List Change → List Kept → List Kept
after_changes [] rows = rows
after_changes (change ∷ changes) rows = after_changes changes (after_change change rows)

-- ---- what is looked at in all written rows together

-- Only new rows can have a key that another row has.
abbrev pub new_keys_cause : Site → Job → List Kept → List Change → Option Cause
new_keys_cause site (job.Put rows) older changes = key_cause site.here older (rows_put changes)
new_keys_cause site (job.Alter sets condition) older changes = None
new_keys_cause site (job.Remove condition) older changes = None
new_keys_cause site job.Fill older changes = None

-- Why rows aren't accepted beside each other: the key, then unique constraints over the rows as they would be.
abbrev pub cause_together : Site → Job → List Kept → List Change → Option Cause
cause_together site job older changes =
    option_or (new_keys_cause site job older changes) (clashes site (after_changes changes older) (keys_changed changes))

-- Why a statement's rows aren't accepted together: such a cause, then their weight.
abbrev pub refused_together : Site → Job → List Kept → List Change → Option SqlError
refused_together site job older changes =
    option_or (option_map row_error (cause_together site job older changes))
    (if nat_lt max_total (total_weight (rows_put changes)) then Some heavy_statement else None)
