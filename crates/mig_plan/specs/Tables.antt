-- The operations on tables: create_table, drop_table and rename_table. All of it is our own.
use Rattle.std.specs.Prelude.{ℕ, ◌+◌, Bool, false, not, ◌&&◌, ◌||◌, ◌==◌, nat_le, nat_lt, List, [], ◌∷◌, ◌++◌, codes, filter, is_some, length, Option, Some, None, Result}
use Rattle.std.specs.List.{list_all, position_or_len}
use Rattle.std.specs.Option.{option_or}
use Rattle.sql_base.specs.declared.shapes.Schema.{Schema}
use Rattle.sql_base.specs.declared.values.Ty.TheVariants as ty
use Rattle.sql_base.specs.Fit.{has_type}
use Rattle.sql_eval.specs.Shape.{max_columns}
use Rattle.sql_eval.specs.Typing.{same}
use Rattle.sql_eval.specs.Value.{is_null}
use Rattle.mig_plan.specs.declared.drafts.Draft.{Draft}
use Rattle.mig_plan.specs.declared.drafts.DraftTable.{DraftTable}
use Rattle.mig_lens.specs.declared.faults.Member.TheVariants as member
use Rattle.mig_lens.specs.declared.faults.PlanFault.{PlanFault}
use Rattle.mig_lens.specs.declared.faults.PlanFault.TheVariants.{Exists, KeyColumn, BadType, Limit}
use Rattle.mig_lens.specs.declared.migrations.ColumnDef.{ColumnDef}
use Rattle.mig_plan.specs.Columns.{name_fault, with_column}
use Rattle.mig_plan.specs.Draft.{has_table}
use Rattle.mig_plan.specs.Versions.{first, when, without_fault}

-- ---- create_table

-- a table of this name and number without columns, whose key is to be the column at this place
abbrev pub empty_table : List ℕ → ℕ → ℕ → DraftTable
empty_table title number key =
    record { number = number; stood = false; name = Some title; columns = []; key = key; checks = []; uniques = [] }

-- the table that is to have these columns, before it has any
abbrev pub first_form : List ℕ → List ColumnDef → ℕ → DraftTable
first_form title columns number = empty_table title number (position_or_len (λ column. column.pk) columns)

-- The table with these columns too.
abbrev pub with_columns : List ℕ → ℕ → List ColumnDef → DraftTable → DraftTable
with_columns title at [] table = table
with_columns title at (column ∷ columns) table = with_columns title at columns (with_column title column None None at table)

-- P9 of the columns in order, each in the table with those before it.
abbrev pub names_fault : Schema → List ℕ → ℕ → List ColumnDef → DraftTable → Option PlanFault
names_fault old title at [] table = None
names_fault old title at (column ∷ columns) table =
    option_or (name_fault old title table column) (names_fault old title at columns (with_column title column None None at table))

-- bigint, and without a default
abbrev pub may_be_key : ColumnDef → Bool
may_be_key column = same column.ty ty.Bigint && is_null column.default

-- the number of columns that are to be the key
abbrev pub key_count : List ColumnDef → ℕ
key_count columns = length (filter (λ column. column.pk) columns)

abbrev pub keys_may_be : List ColumnDef → Bool
keys_may_be columns = list_all (λ column. not column.pk || may_be_key column) columns

-- exactly one column is the key, and it may be
abbrev pub has_key : List ColumnDef → Bool
has_key columns = key_count columns == 1 && keys_may_be columns

abbrev pub fits_default : ColumnDef → Bool
fits_default column = has_type (Some column.ty) column.default

-- the largest number of a table
abbrev pub max_table : ℕ
max_table = 4294967294

-- P9 for the table's name, and then for those of its columns.
abbrev pub taken_fault : Schema → ℕ → List ℕ → List ColumnDef → Draft → Option PlanFault
taken_fault old at title columns draft =
    option_or (when (has_table old draft title) (Exists title)) (names_fault old title at columns (first_form title columns draft.next_table))

abbrev pub all_fit : List ColumnDef → Bool
all_fit columns = list_all fits_default columns

-- P10, P15, P20.
abbrev pub kinds_fault : ℕ → List ℕ → List ColumnDef → Option PlanFault
kinds_fault at title columns =
    first
    (when (not (has_key columns)) (KeyColumn title)
    ∷ when (not (all_fit columns)) (BadType (record { operation = at; member = member.Default }))
    ∷ when (nat_lt max_columns (length columns)) (Limit (codes "columns"))
    ∷ [])

-- the most tables of a version
abbrev pub max_tables : ℕ
max_tables = 64

-- the number of these tables that the new version so far has
abbrev pub table_count : List DraftTable → ℕ
table_count tables = length (filter (λ table. is_some table.name) tables)

-- whether the new version so far has as many tables as it may have
abbrev pub is_full : Draft → Bool
is_full draft = nat_le max_tables (table_count draft.tables)

-- P20: no number is left for a table, or no room.
abbrev pub room_fault : Draft → Option PlanFault
room_fault draft = when (nat_lt max_table draft.next_table || is_full draft) (Limit (codes "tables"))

-- What is wrong with a new table: P9, P10, P15, P20.
abbrev pub create_fault : Schema → ℕ → List ℕ → List ColumnDef → Draft → Option PlanFault
create_fault old at title columns draft =
    option_or (taken_fault old at title columns draft) (option_or (kinds_fault at title columns) (room_fault draft))

abbrev pub new_table : ℕ → List ℕ → List ColumnDef → ℕ → DraftTable
new_table at title columns number =
    with_columns title at columns (first_form title columns number)

abbrev pub table_created : Schema → ℕ → List ℕ → List ColumnDef → Draft → Result Draft PlanFault
table_created old at title columns draft =
    without_fault (create_fault old at title columns draft)
    (record { tables = draft.tables ++ new_table at title columns draft.next_table ∷ []; next_table = draft.next_table + 1 })

-- ---- drop_table and rename_table

abbrev pub table_dropped : DraftTable → DraftTable
table_dropped table = record table { name = None }

-- P9; else the table has the other name.
abbrev pub table_renamed : Schema → Draft → List ℕ → DraftTable → Result DraftTable PlanFault
table_renamed old draft to table =
    without_fault (when (has_table old draft to) (Exists to)) (record table { name = Some to })
