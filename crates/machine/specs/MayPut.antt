-- When rows that come from outside may be put into a state.
--
-- A record brings changes of the rows of one table. They may be made where the state afterwards is one that stands and is lawful: no more is asked, and no less. Rows that the changes leave are looked at, and of the rows that stay only whether they have the same values. All of it is our own.
use Rattle.std.specs.Prelude.{ℕ, ◌+◌, ◌==◌, ℤ, List, [], ◌∷◌, Bool, true, false, not, ◌&&◌, ◌||◌, Option, Some, None, is_none, length, nat_lt, if◌then◌else◌}
use Rattle.std.specs.List.{filter, list_all, list_any}
use Rattle.std.specs.Option.{option_or}
use Rattle.std.specs.Ordering.{int_eq}
use Rattle.sql_base.specs.Fit.{row_fits}
use Rattle.row_rules.specs.Accept.{clashes_on, has_key, side_cause, weight_cause}
use Rattle.row_rules.specs.Changes.{after_changes, key_changed, keys_changed, rows_put}
use Rattle.row_rules.specs.Site.{key_of, shape_of}
use Rattle.machine.specs.Standing.{may_lose, may_miss}
use Rattle.machine.specs.State.{row_count, rows_of, shared, table_on}
use Rattle.machine.specs.Statement.{max_rows}
use Rattle.machine.specs.Words.{Cause, Change, Kept, New, Old, State, Table, Value}

-- ---- what changes leave

-- Whether one of these changes is of this key.
abbrev pub is_changed : ℤ → List Change → Bool
is_changed key changes = list_any (int_eq key) (keys_changed changes)

-- Of each key the last change.
abbrev pub last_changes : List Change → List Change
last_changes [] = []
last_changes (change ∷ changes) = if is_changed (key_changed change) changes then last_changes changes else change ∷ last_changes changes

-- The rows that changes leave written.
abbrev pub rows_left : List Change → List Kept
rows_left changes = rows_put (last_changes changes)

-- How many of these older rows they replace or remove.
abbrev pub rows_gone : List Kept → List Change → ℕ
rows_gone older changes = length (filter (λ key. has_key key older) (keys_changed (last_changes changes)))

-- ---- whether a row stands

-- A half is there exactly where its side has the table; it fits the shape, and has the row's key in the key's place.
abbrev pub half_stands : Option Table → ℤ → Option (List Value) → Bool
half_stands None key None = true
half_stands None key (Some values) = false
half_stands (Some table) key None = false
half_stands (Some table) key (Some values) = row_fits (shape_of table) values && int_eq (key_of (shape_of table) values) key

-- The new half may be missing where a new column has to be made.
abbrev pub new_stands : Bool → Option Table → ℤ → Option (List Value) → Bool
new_stands misses table key half = (misses && is_none half) || half_stands table key half

abbrev pub stands_row : State → ℕ → Kept → Bool
stands_row s number row =
    half_stands (table_on s Old number) row.key row.halves.old
    && new_stands (may_miss (shared s number)) (table_on s New number) row.key row.halves.new

-- ---- whether a row is lawful

-- What the new version has of a table of which a new column has to be made: its new halves are looked at before the migration is completed.
abbrev pub made_table : State → ℕ → Option Table
made_table s number = if may_miss (shared s number) then table_on s New number else None

-- What is wrong with a row: a fault of its old half, of a new half that had to be made, or a half that is too heavy.
abbrev pub unlawful : State → ℕ → Kept → Option Cause
unlawful s number row =
    option_or (side_cause (table_on s Old number) row.key row.halves.old)
    (option_or (side_cause (made_table s number) row.key row.halves.new) (weight_cause row))

abbrev pub lawful_row : State → ℕ → Kept → Bool
lawful_row s number row = is_none (unlawful s number row)

-- A row has a lost weight only while rows may lose any.
abbrev pub lost_row : State → Kept → Bool
lost_row s row = may_lose s.kind s.left || row.lost == 0

abbrev pub may_hold : State → ℕ → Kept → Bool
may_hold s number row = stands_row s number row && (lost_row s row && lawful_row s number row)

-- ---- whether all rows may stand beside one another

-- Over the rows as they would be: a row of one of these keys has the values of another one, through the old version, or through the new one where a new column has to be made.
abbrev pub clash_cause : State → ℕ → List Kept → List ℤ → Option Cause
clash_cause s number rows keys =
    option_or (clashes_on (table_on s Old number) Old rows keys) (clashes_on (made_table s number) New rows keys)

-- Where there are so many rows in all tables, and these older ones among them, there would be more than there may be.
abbrev pub too_many : List Kept → ℕ → List Change → Bool
too_many older count changes = nat_lt (max_rows + rows_gone older changes) (count + length (rows_left changes))

-- ---- whether changes may be made

-- Whether these changes may be made in the table of a number. Of the state its versions and its steps of tidying are looked at alone: the table has these older rows, and in all tables there are so many.
abbrev pub may_put_beside : State → ℕ → List Kept → ℕ → List Change → Bool
may_put_beside s number older count changes =
    list_all (may_hold s number) (rows_left changes)
    && (is_none (clash_cause s number (after_changes changes older) (keys_changed changes)) && not (too_many older count changes))

abbrev pub may_put : State → ℕ → List Change → Bool
may_put s number changes = may_put_beside s number (rows_of s number) (row_count s) changes
