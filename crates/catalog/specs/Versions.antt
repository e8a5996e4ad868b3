-- Which versions stand, and how a path finds a table in them.
--
-- A client sees the tables through a version. A path is a list of names of versions, each with public_ in front. While a
-- migration is active two versions stand, the old side and the new side; else the current version stands alone, and it is
-- the old side. That both are usable meanwhile is pgroll's (its documentation, How pgroll works).
use Rattle.std.specs.Prelude.{ℕ, List, [], ◌∷◌, ◌++◌, Option, Some, None, codes, find, ◌==◌, if◌then◌else◌}
use Rattle.std.specs.Option.{option_map, option_and_then, option_or}
use Rattle.std.specs.Str.{bytes_eq}
use Rattle.sql_base.specs.declared.shapes.Schema.{Schema}
use Rattle.mig_lens.specs.declared.columns.Side.{Side}
use Rattle.mig_lens.specs.declared.columns.Side.TheVariants.{Old, New}
use Rattle.mig_lens.specs.Plan.{Table}
use Rattle.catalog.specs.declared.versions.Known.{Known}
use Rattle.catalog.specs.declared.versions.Stage.{Stage}
use Rattle.catalog.specs.declared.versions.Stage.TheVariants.{Calm, Both, AfterFirst, AfterSecond, RolledBack}

-- ---- versions

-- The name by which a path names a version.
abbrev pub path_name : List ℕ → List ℕ
path_name version = codes "public_" ++ version

-- A version that stands: its side, and its tables.
pub record Version : Type 0 where
  pub side : Side
  pub schema : Schema

-- The new version, while a migration is active, where it goes by this name in a path.
abbrev pub newer_called : Stage → List ℕ → Option Version
newer_called (Both name schema fates) named =
    if bytes_eq named (path_name name) then Some (record { side = New; schema = schema }) else None
newer_called Calm named = None
newer_called (AfterFirst lost fates) named = None
newer_called (AfterSecond lost fates) named = None
newer_called (RolledBack lost fates) named = None

-- The version that goes by this name in a path, where one stands.
abbrev pub version_called : Known → List ℕ → Option Version
version_called known named =
    if bytes_eq named (path_name known.name) then Some (record { side = Old; schema = known.schema })
    else newer_called known.stage named

-- ---- tables of versions

abbrev pub newer_tables : Stage → List Table
newer_tables (Both name schema fates) = schema.tables
newer_tables Calm = []
newer_tables (AfterFirst lost fates) = []
newer_tables (AfterSecond lost fates) = []
newer_tables (RolledBack lost fates) = []

-- The tables of the version of a side; none where it doesn't stand.
abbrev pub tables_on : Known → Side → List Table
tables_on known Old = known.schema.tables
tables_on known New = newer_tables known.stage

-- The table of a number in the version of a side.
abbrev pub table_on : Known → Side → ℕ → Option Table
table_on known side number = find (λ table. table.1 == number) (tables_on known side)

-- ---- tables through a path

-- The table of a name in one version, as its side and its number.
abbrev pub table_in : List ℕ → Version → Option (Side × ℕ)
table_in name version =
    option_map (λ table. (version.side, table.1)) (find (λ table. bytes_eq table.0 name) version.schema.tables)

-- That through one name of a path: in the version that goes by this name, where one stands and has the table.
abbrev pub table_through : Known → List ℕ → List ℕ → Option (Side × ℕ)
table_through known named name = option_and_then (table_in name) (version_called known named)

-- A table is taken in the first version of the path that stands and has it.
abbrev pub table_of : Known → List (List ℕ) → List ℕ → Option (Side × ℕ)
table_of known [] name = None
table_of known (named ∷ path) name = option_or (table_through known named name) (table_of known path name)
