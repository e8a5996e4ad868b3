-- What a state holds, how a statement finds its table in it, and what a row shows.
--
-- A client sees the tables through a version. A version has a name and a schema: its tables, each with its name, its number and its shape. A table keeps its number in every version, while its name and its shape may differ. A statement carries a path: names of versions, each with public_ in front. While a migration is active two versions stand, the old side and the new side, and a row has a half for each version that has its table; in a table that both have, the new half may be missing until the row is filled. That both are usable meanwhile is pgroll's (its documentation, How pgroll works). While no migration is active one version stands, and it is the old side.
use Rattle.std.specs.Prelude.{ℕ, ℤ, List, [], ◌∷◌, ◌++◌, ◌==◌, false, Option, Some, None, codes, find, length, map, sum_by, if◌then◌else◌}
use Rattle.std.specs.Option.{option_map, option_map_or, option_and_then, option_or}
use Rattle.std.specs.Str.{bytes_eq}
use Rattle.row_rules.specs.Rows as rows
use Rattle.row_rules.specs.Site.{Beside, Site, name_of, number_of}
use Rattle.machine.specs.Words.{Bigint, Both, Calm, Column, Fate, Kept, Lens, Mode, New, Nothing, Null, Old, Schema, Shape, Side, State, Table, Text, Ty, lens_in, table_numbered}

-- ---- versions and their tables

-- The name by which a path names a version.
abbrev pub path_name : List ℕ → List ℕ
path_name version = codes "public_" ++ version

-- A version that stands: its side, and its tables.
pub record Version : Type 0 where
  pub side : Side
  pub schema : Schema

-- The new version, while a migration is active, where it goes by this name in a path.
abbrev pub newer_called : Mode → List ℕ → Option Version
newer_called Calm named = None
newer_called (Both name schema fates) named = if bytes_eq named (path_name name) then Some (record { side = New; schema = schema }) else None

-- The version that goes by this name in a path, where one stands. (The two have different names.)
abbrev pub version_called : State → List ℕ → Option Version
version_called s named = if bytes_eq named (path_name s.version) then Some (record { side = Old; schema = s.schema }) else newer_called s.mode named

abbrev pub newer_schema : Mode → Option Schema
newer_schema Calm = None
newer_schema (Both name schema fates) = Some schema

-- The tables of the version that stands on a side.
abbrev pub schema_on : State → Side → Option Schema
schema_on s Old = Some s.schema
schema_on s New = newer_schema s.mode

-- The table of a number in the version of a side.
abbrev pub table_on : State → Side → ℕ → Option Table
table_on s side number = option_and_then (λ schema. table_numbered schema number) (schema_on s side)

-- A table as a statement finds it: the side of its version, and what the version has of it.
pub record Found : Type 0 where
  pub side : Side
  pub table : Table

-- The table of a name in one version.
abbrev pub table_in : List ℕ → Version → Option Found
table_in name version = option_map (λ table. record { side = version.side; table = table }) (find (λ table. bytes_eq (name_of table) name) version.schema.tables)

-- The table of a name through one name of a path: that of the version that goes by this name, where one stands and has the table.
abbrev pub table_through : State → List ℕ → List ℕ → Option Found
table_through s named name = option_and_then (table_in name) (version_called s named)

-- A table is taken in the first version of the path that stands and has it. A name in the path that no version has is passed by.
abbrev pub table_of : State → List (List ℕ) → List ℕ → Option Found
table_of s [] name = None
table_of s (named ∷ path) name = option_or (table_through s named name) (table_of s path name)

-- ---- tables that both versions have

-- The fate of the table of a number.
abbrev pub fate_among : List (ℕ × Fate) → ℕ → Option (ℕ × Fate)
fate_among fates number = find (λ fate. fate.0 == number) fates

abbrev pub lens_among : List (ℕ × Fate) → ℕ → Option Lens
lens_among fates number = option_and_then (λ fate. lens_in fate.1) (fate_among fates number)

abbrev pub lens_between : Mode → ℕ → Option Lens
lens_between Calm number = None
lens_between (Both name schema fates) number = lens_among fates number

-- A table that both versions have: what each has of it, and the lens between its shapes.
pub record Shared : Type 0 where
  pub old : Table
  pub new : Table
  pub lens : Lens

abbrev pub shared : State → ℕ → Option Shared
shared s number =
    option_and_then (λ old. option_and_then (λ new. option_map (λ lens. record { old = old; new = new; lens = lens })
    (lens_between s.mode number)) (table_on s New number)) (table_on s Old number)

-- ---- a table as a statement meets it

abbrev pub beside_on : Side → Shared → Beside
beside_on Old pair = record { table = pair.new; lens = pair.lens }
beside_on New pair = record { table = pair.old; lens = pair.lens }

-- How many columns of a table are lost with the version that is gone, while steps of tidying are left.
abbrev pub lost_columns_of : State → ℕ → ℕ
lost_columns_of s number = option_map_or (λ lost. lost.1) (find (λ lost. lost.0 == number) s.lost_columns) 0

-- The site of a table that was found.
abbrev pub site_of : State → Found → Site
site_of s found = record {
  side = found.side;
  here = found.table;
  there = option_map (beside_on found.side) (shared s (number_of found.table));
  lost = lost_columns_of s (number_of found.table);
}

-- The site through which rows of a table that both versions have are filled: the new version's.
abbrev pub filling_site : State → Shared → Site
filling_site s pair = site_of s (record { side = New; table = pair.new })

-- ---- rows

-- The rows of the table of a number, in ascending key; no row where the state has no such table.
abbrev pub rows_of : State → ℕ → List Kept
rows_of s number = option_map_or (λ table. table.1) (find (λ table. table.0 == number) s.tables) []

-- The same state with these rows in the table of a number. A state without that table stays as it is.
abbrev pub with_rows : State → ℕ → List Kept → State
with_rows s number rows = record s { tables = map (λ table. if table.0 == number then (number, rows) else table) s.tables }

-- The number of rows in all tables.
abbrev pub row_count : State → ℕ
row_count s = sum_by (λ table. length table.1) s.tables

-- The keys of the rows of a table that are still to be filled, in ascending order. Only a table that both versions have has any.
abbrev pub missing_keys : State → ℕ → List ℤ
missing_keys s number = option_map_or (λ pair. rows.missing_keys (rows_of s number)) (shared s number) []

-- ---- the state that a run begins with

-- A column that may not be NULL and has no default: its default is NULL.
abbrev pub needed_column : List ℕ → Ty → Column
needed_column name ty = record { name = name; ty = ty; nullable = false; default = Null }

-- users: the key id, a bigint, and name, a text.
abbrev pub users : Shape
users = record { columns = needed_column (codes "id") Bigint ∷ needed_column (codes "name") Text ∷ []; key = 0; checks = []; uniques = [] }

-- The version 01_users with the one table users, of number 1, which has no row.
abbrev pub beginning : State
beginning = record {
  version = codes "01_users";
  schema = record { tables = (codes "users", 1, users) ∷ [] };
  mode = Calm;
  left = 0;
  kind = Nothing;
  next_table = 2;
  tables = (1, []) ∷ [];
  lost_columns = [];
}
