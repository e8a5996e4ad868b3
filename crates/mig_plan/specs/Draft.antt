-- A plan in the making: the old version and the new version so far, side by side, column by column.
use Rattle.std.specs.Prelude.{ℕ, Bool, false, ◌&&◌, ◌||◌, ◌==◌, List, find, length, map, slice_get, Option, Some, None, if◌then◌else◌}
use Rattle.std.specs.List.{filter_map, list_any}
use Rattle.std.specs.Option.{option_and_then, option_map, option_map_or, option_or}
use Rattle.std.specs.Str.{bytes_eq}
use Rattle.sql_base.specs.declared.exprs.Expr.{Expr}
use Rattle.sql_base.specs.declared.exprs.Expr.TheVariants.{Col}
use Rattle.sql_base.specs.declared.shapes.Column.{Column}
use Rattle.sql_base.specs.declared.shapes.Schema.{Schema}
use Rattle.sql_base.specs.declared.shapes.Unique.{Unique}
use Rattle.mig_plan.specs.declared.drafts.After.{After}
use Rattle.mig_plan.specs.declared.drafts.Draft.{Draft}
use Rattle.mig_plan.specs.declared.drafts.DraftCheck.{DraftCheck}
use Rattle.mig_plan.specs.declared.drafts.DraftColumn.{DraftColumn}
use Rattle.mig_plan.specs.declared.drafts.DraftTable.{DraftTable}
use Rattle.mig_plan.specs.Versions.{has_constraint, key_name, table_numbered}

-- ---- columns

-- whether it is a column of this name
abbrev pub is_called : List ℕ → Option Column → Bool
is_called name None = false
is_called name (Some column) = bytes_eq column.name name

-- whether the column has this name in the new version so far
abbrev pub is_now : List ℕ → DraftColumn → Bool
is_now name column = is_called name column.after.column

-- whether the column has this name in the old version or in the new version so far
abbrev pub is_either : List ℕ → DraftColumn → Bool
is_either name column = is_called name column.before || is_now name column

-- the column that a name means
abbrev pub column_meant : DraftTable → List ℕ → Option DraftColumn
column_meant table name = find (is_now name) table.columns

-- whether a column has the name, in the old version or in the new version so far
abbrev pub has_column : List ℕ → DraftTable → Bool
has_column name table = list_any (is_either name) table.columns

-- whether the column at this place among those of a draft has the name
abbrev pub is_at : List DraftColumn → List ℕ → ℕ → Bool
is_at columns name at = option_map_or (is_now name) (slice_get columns at) false

abbrev pub is_key_named : DraftTable → List ℕ → Bool
is_key_named table name = is_at table.columns name table.key

-- how many of the columns the new version has so far
abbrev pub new_count : List DraftColumn → ℕ
new_count columns = length (filter_map (λ column. column.after.column) columns)

-- What becomes of the column that has this name now.
abbrev pub put_after : List ℕ → After → DraftColumn → DraftColumn
put_after name after column = if is_now name column then record column { after = after } else column

abbrev pub with_after : List ℕ → After → DraftTable → DraftTable
with_after name after table = record table { columns = map (put_after name after) table.columns }

-- ---- up and down

-- One of `up` and `down`: as it is given; where the other alone is given it is the column itself, under the name of its
-- side.
abbrev pub way : Option Expr → Option Expr → Option Column → Option Expr
way given other column =
    option_or given (option_and_then (λ _. option_map (λ c. Col c.name) column) other)

-- The column, made by `up` and `down` where either is given, and carried where neither is; it is the subject of the
-- operation at this place.
abbrev pub linked : Option Column → Column → Option Expr → Option Expr → ℕ → After
linked before column up down at =
    record { column = Some column; up = way up down before; down = way down up (Some column); subject = Some at }

-- ---- tables

abbrev pub is_titled : List ℕ → Option (List ℕ) → Bool
is_titled name None = false
is_titled name (Some title) = bytes_eq title name

-- The table that an operation means by a name: it has this name in the new version so far, and the old version has it.
abbrev pub table_meant : Draft → List ℕ → Option DraftTable
table_meant draft name = find (λ table. is_titled name table.name && table.stood) draft.tables

abbrev pub is_old_title : Schema → List ℕ → Bool
is_old_title old name = list_any (λ table. bytes_eq table.0 name) old.tables

abbrev pub is_new_title : Draft → List ℕ → Bool
is_new_title draft name = list_any (λ table. is_titled name table.name) draft.tables

-- whether a table has the name, in the old version or in the new version so far
abbrev pub has_table : Schema → Draft → List ℕ → Bool
has_table old draft name = is_old_title old name || is_new_title draft name

-- The changed table, where this one has its number.
abbrev pub in_place : DraftTable → DraftTable → DraftTable
in_place changed table = if table.number == changed.number then changed else table

abbrev pub with_table : DraftTable → Draft → Draft
with_table changed draft = record draft { tables = map (in_place changed) draft.tables }

-- ---- constraints

abbrev pub is_check_named : List ℕ → DraftCheck → Bool
is_check_named name check = bytes_eq check.check.name name

abbrev pub is_unique_named : List ℕ → Unique → Bool
is_unique_named name unique = bytes_eq unique.name name

-- The table, whose name in the new version so far is the first one, has a constraint of this name there.
abbrev pub has_own_constraint : List ℕ → List ℕ → DraftTable → Bool
has_own_constraint title name table =
    list_any (is_check_named name) table.checks || list_any (is_unique_named name) table.uniques
    || bytes_eq (key_name title) name

-- The same, or the table has one of this name in the old version.
abbrev pub has_either_constraint : Schema → List ℕ → List ℕ → DraftTable → Bool
has_either_constraint old title name table =
    option_map_or (has_constraint name) (table_numbered old table.number) false || has_own_constraint title name table
