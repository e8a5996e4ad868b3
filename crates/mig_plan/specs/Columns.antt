-- The operations on columns: add_column, drop_column, rename_column and alter_column.
--
-- `up` gives a new column its value from the old version's row, and `down` an old column its value from the new version's
-- row: pgroll's documentation. The rest is our own.
use Rattle.std.specs.Prelude.{ℕ, Bool, false, not, ◌&&◌, ◌||◌, nat_le, List, [], ◌∷◌, ◌++◌, codes, filter, is_none, is_some, length, map, Option, Some, None, Result, Ok, if◌then◌else◌}
use Rattle.std.specs.List.{list_any, position_or_len}
use Rattle.std.specs.Option.{ok_or, option_or, unwrap_or}
use Rattle.std.specs.Str.{bytes_eq}
use Rattle.sql_base.specs.declared.exprs.Expr.{Expr}
use Rattle.sql_base.specs.declared.shapes.Check.{Check}
use Rattle.sql_base.specs.declared.shapes.Column.{Column}
use Rattle.sql_base.specs.declared.shapes.Schema.{Schema}
use Rattle.sql_base.specs.declared.shapes.Unique.{Unique}
use Rattle.sql_base.specs.declared.values.Ty.{Ty}
use Rattle.sql_base.specs.declared.values.Value.{Value}
use Rattle.sql_base.specs.declared.values.Value.TheVariants.{Null}
use Rattle.sql_base.specs.Outcome.{and_then}
use Rattle.sql_base.specs.Fit.{has_type}
use Rattle.sql_base.specs.Tree.{names_column}
use Rattle.sql_eval.specs.Shape.{max_columns}
use Rattle.sql_eval.specs.Typing.{same}
use Rattle.sql_eval.specs.Value.{is_null}
use Rattle.mig_plan.specs.declared.drafts.After.{After}
use Rattle.mig_plan.specs.declared.drafts.DraftCheck.{DraftCheck}
use Rattle.mig_plan.specs.declared.drafts.DraftColumn.{DraftColumn}
use Rattle.mig_plan.specs.declared.drafts.DraftTable.{DraftTable}
use Rattle.mig_lens.specs.declared.faults.Member.TheVariants as member
use Rattle.mig_lens.specs.declared.faults.PlanFault.{PlanFault}
use Rattle.mig_lens.specs.declared.faults.PlanFault.TheVariants.{NoSuchColumn, Exists, KeyColumn, ColumnTwice, UpNeeded, DownNeeded, BadType, Limit}
use Rattle.mig_lens.specs.declared.migrations.ColumnDef.{ColumnDef}
use Rattle.mig_plan.specs.Draft.{column_meant, has_column, has_either_constraint, is_at, is_key_named, is_now, linked, new_count, with_after}
use Rattle.mig_plan.specs.Renaming.{renamed}
use Rattle.mig_plan.specs.Versions.{first, unique_name, when, without_fault}

-- ---- a column more

abbrev pub is_named : List ℕ → Option Check → Bool
is_named name None = false
is_named name (Some check) = bytes_eq check.name name

abbrev pub check_name_fault : Schema → List ℕ → DraftTable → Option Check → Option PlanFault
check_name_fault old title table None = None
check_name_fault old title table (Some check) =
    when (has_either_constraint old title check.name table) (Exists check.name)

-- The column's check stands before its unique constraint, so that has another name.
abbrev pub unique_name_fault : Schema → List ℕ → DraftTable → ColumnDef → List ℕ → Option PlanFault
unique_name_fault old title table column name =
    when (column.unique && (is_named name column.check || has_either_constraint old title name table)) (Exists name)

-- P9 for a new column of a table of this name: for its own name, its check's, and that of its unique constraint.
abbrev pub name_faults : Schema → List ℕ → DraftTable → ColumnDef → List (Option PlanFault)
name_faults old title table column =
    when (has_column column.name table) (Exists column.name)
    ∷ check_name_fault old title table column.check
    ∷ unique_name_fault old title table column (unique_name title column.name)
    ∷ []

abbrev pub name_fault : Schema → List ℕ → DraftTable → ColumnDef → Option PlanFault
name_fault old title table column = first (name_faults old title table column)

-- A key's column takes no NULL.
abbrev pub column_of : ColumnDef → Column
column_of column =
    record { name = column.name; ty = column.ty; nullable = column.nullable && not column.pk; default = column.default }

abbrev pub uniques_of : List ℕ → ColumnDef → ℕ → List Unique
uniques_of title column at =
    if column.unique then record { name = unique_name title column.name; columns = at ∷ [] } ∷ [] else []

abbrev pub checks_of : Option Check → Option ℕ → List DraftCheck
checks_of None made = []
checks_of (Some check) made = record { check = check; made = made } ∷ []

abbrev pub new_column : ColumnDef → Option Expr → Option ℕ → DraftColumn
new_column column up subject =
    record { before = None; after = record { column = Some (column_of column); up = up; down = None; subject = subject } }

-- The table of this name with the column last, and its constraints too, which the operation at this place made.
abbrev pub with_column : List ℕ → ColumnDef → Option Expr → Option ℕ → ℕ → DraftTable → DraftTable
with_column title column up subject at table =
    record table { columns = table.columns ++ new_column column up subject ∷ []; checks = table.checks ++ checks_of column.check (Some at); uniques = table.uniques ++ uniques_of title column (length table.columns) }

-- ---- add_column

-- Neither NULL, nor a default, nor `up` gives the rows that stand a value.
abbrev pub needs_up : ColumnDef → Option Expr → Bool
needs_up column up = not column.nullable && is_null column.default && is_none up

-- What is wrong with a new column of a table of this name, in the operation at this place: P9, P10, P12, P15, P20.
abbrev pub column_faults : Schema → ℕ → List ℕ → DraftTable → ColumnDef → Option Expr → List (Option PlanFault)
column_faults old at title table column up =
    name_fault old title table column
    ∷ when column.pk (KeyColumn title)
    ∷ when (needs_up column up) (UpNeeded title column.name)
    ∷ when (not (has_type (Some column.ty) column.default)) (BadType (record { operation = at; member = member.Default }))
    ∷ when (nat_le max_columns (new_count table.columns)) (Limit (codes "columns"))
    ∷ []

abbrev pub column_fault : Schema → ℕ → List ℕ → DraftTable → ColumnDef → Option Expr → Option PlanFault
column_fault old at title table column up = first (column_faults old at title table column up)

-- What is wrong with the column; else it stands last in the table.
abbrev pub column_added : Schema → ℕ → List ℕ → ColumnDef → Option Expr → DraftTable → Result DraftTable PlanFault
column_added old at title column up table =
    without_fault (column_fault old at title table column up) (with_column title column up (Some at) at table)

-- ---- a column that stands

-- The column that an operation means, with what it is in the new version so far: P8.
abbrev pub standing : List ℕ → DraftTable → List ℕ → Result (DraftColumn × Column) PlanFault
standing title table name =
    and_then (ok_or (column_meant table name) (NoSuchColumn title name))
    (λ column. and_then (ok_or column.after.column (NoSuchColumn title name)) (λ now. Ok (column, now)))

-- P10
abbrev pub key_fault : List ℕ → DraftTable → List ℕ → Option PlanFault
key_fault title table name = when (is_key_named table name) (KeyColumn title)

-- P11
abbrev pub twice_fault : List ℕ → List ℕ → DraftColumn → Option PlanFault
twice_fault title name column = when (is_some column.after.subject) (ColumnTwice title name)

-- ---- drop_column

-- whether the unique constraint is over the column
abbrev pub unique_names : List DraftColumn → List ℕ → Unique → Bool
unique_names columns name unique = list_any (is_at columns name) unique.columns

-- The column leaves, and with it the checks and unique constraints that name it.
abbrev pub without_column : List ℕ → Option Expr → ℕ → DraftTable → DraftTable
without_column name down at table =
    with_after name (record { column = None; up = None; down = down; subject = Some at })
    (record table { checks = filter (λ check. not (names_column name check.check.expr)) table.checks; uniques = filter (λ unique. not (unique_names table.columns name unique)) table.uniques })

-- P8, P10, P11; else the column is dropped.
abbrev pub column_dropped : ℕ → List ℕ → List ℕ → Option Expr → DraftTable → Result DraftTable PlanFault
column_dropped at title name down table =
    and_then (standing title table name)
    (λ found. without_fault (first (key_fault title table name ∷ twice_fault title name found.0 ∷ [])) (without_column name down at table))

-- ---- rename_column

-- The check under the column's new name.
abbrev pub check_renamed : List ℕ → List ℕ → DraftCheck → DraftCheck
check_renamed from to check =
    record check { check = record { name = check.check.name; expr = renamed from to check.check.expr } }

abbrev pub after_renaming : List ℕ → ℕ → Column → After
after_renaming to at column =
    record { column = Some (record column { name = to }); up = None; down = None; subject = Some at }

-- The column under its new name, carried as before.
abbrev pub with_name : List ℕ → List ℕ → ℕ → Column → DraftTable → DraftTable
with_name from to at column table =
    with_after from (after_renaming to at column)
    (record table { checks = map (check_renamed from to) table.checks })

-- P9, P11.
abbrev pub rename_fault : List ℕ → List ℕ → List ℕ → DraftTable → DraftColumn → Option PlanFault
rename_fault title from to table column =
    first (when (has_column to table) (Exists to) ∷ twice_fault title from column ∷ [])

-- P8, P9, P11; else the column has the other name.
abbrev pub column_renamed : ℕ → List ℕ → List ℕ → List ℕ → DraftTable → Result DraftTable PlanFault
column_renamed at title from to table =
    and_then (standing title table from)
    (λ found. without_fault (rename_fault title from to table found.0) (with_name from to at found.1 table))

-- ---- alter_column

-- what the operation gives of the column
abbrev pub given_default : Column → Option Ty → Option Value → Value
given_default column ty (Some default) = default
given_default column ty None = if same column.ty (unwrap_or ty column.ty) then column.default else Null

-- The column as it is to be. Where its type changes and no default is given its default is NULL.
abbrev pub altered : Column → Option Ty → Option Bool → Option Value → Column
altered column ty nullable default =
    record { name = column.name; ty = unwrap_or ty column.ty; nullable = unwrap_or nullable column.nullable; default = given_default column ty default }

-- P12: a value of the old column may be none of the new one, and there is no `up`.
abbrev pub wants_up : Column → Column → Option Expr → Bool
wants_up column other up = (not (same column.ty other.ty) || column.nullable && not other.nullable) && is_none up

-- P13: a value of the new column may be none of the old one, and there is no `down`.
abbrev pub wants_down : Column → Column → Option Expr → Bool
wants_down column other down = (not (same column.ty other.ty) || not column.nullable && other.nullable) && is_none down

-- P9 for the names of constraints: the unique constraint's, and then the check's.
abbrev pub unique_taken : Schema → List ℕ → DraftTable → Option (List ℕ) → Option PlanFault
unique_taken old title table None = None
unique_taken old title table (Some name) = when (has_either_constraint old title name table) (Exists name)

abbrev pub is_name : List ℕ → Option (List ℕ) → Bool
is_name name None = false
is_name name (Some other) = bytes_eq name other

abbrev pub check_taken : Schema → List ℕ → DraftTable → Option (List ℕ) → Option Check → Option PlanFault
check_taken old title table unique None = None
check_taken old title table unique (Some check) =
    when (is_name check.name unique || has_either_constraint old title check.name table) (Exists check.name)

abbrev pub place_named : List DraftColumn → List ℕ → ℕ
place_named columns name = position_or_len (is_now name) columns

abbrev pub unique_over : Option (List ℕ) → List ℕ → List Unique
unique_over None places = []
unique_over (Some name) places = record { name = name; columns = places } ∷ []

-- The table with the column as it is to be, and the constraints that the operation makes.
abbrev pub with_altered : List ℕ → After → Option (List ℕ) → Option Check → ℕ → DraftTable → DraftTable
with_altered name after unique check at table =
    with_after name after
    (record table { checks = table.checks ++ checks_of check (Some at); uniques = table.uniques ++ unique_over unique (place_named table.columns name ∷ []) })

-- P9 of the constraints that the operation makes, P10 and P11.
abbrev pub place_fault : Schema → List ℕ → List ℕ → DraftTable → DraftColumn → Option (List ℕ) → Option Check → Option PlanFault
place_fault old title name table column unique check =
    first (unique_taken old title table unique ∷ check_taken old title table unique check ∷ key_fault title table name ∷ twice_fault title name column ∷ [])

-- P12, P13 and P15 of a column and of what it is to be.
abbrev pub value_fault : ℕ → List ℕ → List ℕ → Column → Column → Option Expr → Option Expr → Option PlanFault
value_fault at title name now other up down =
    first
    (when (wants_up now other up) (UpNeeded title name)
    ∷ when (wants_down now other down) (DownNeeded title name)
    ∷ when (not (has_type (Some other.ty) other.default)) (BadType (record { operation = at; member = member.Default }))
    ∷ [])

-- The table with the column as it is to be, which is this one.
abbrev pub with_other : Schema → ℕ → List ℕ → List ℕ → Option (List ℕ) → Option Check → Option Expr → Option Expr → DraftTable → DraftColumn → Column → Column → Result DraftTable PlanFault
with_other old at title name unique check up down table column now other =
    without_fault (option_or (place_fault old title name table column unique check) (value_fault at title name now other up down))
    (with_altered name (linked column.before other up down at) unique check at table)

-- P8, P9, P10, P11, P12, P13, P15; else the column is as it is to be.
abbrev pub column_altered : Schema → ℕ → List ℕ → List ℕ → Option Ty → Option Bool → Option Value → Option (List ℕ) → Option Check → Option Expr → Option Expr → DraftTable → Result DraftTable PlanFault
column_altered old at title name ty nullable default unique check up down table =
    and_then (standing title table name)
    (λ found. with_other old at title name unique check up down table found.0 found.1 (altered found.1 ty nullable default))
