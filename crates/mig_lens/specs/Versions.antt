-- The tables of a version.
use Rattle.std.specs.Prelude.{ℕ, ◌==◌, List, ◌++◌, codes, find, Option}
use Rattle.std.specs.Option.{option_map}
use Rattle.sql_base.specs.declared.shapes.Schema.{Schema}
use Rattle.sql_base.specs.declared.shapes.Shape.{Shape}

-- a table of a version: its name, its number and its shape
abbrev pub Table : Type 0
Table = List ℕ × ℕ × Shape

abbrev pub table_numbered : Schema → ℕ → Option Table
table_numbered schema number = find (λ table. table.1 == number) schema.tables

abbrev pub shape_numbered : Schema → ℕ → Option Shape
shape_numbered schema number = option_map (λ table. table.2) (table_numbered schema number)

-- the name of the constraint that a table's key is
abbrev pub key_name : List ℕ → List ℕ
key_name table = table ++ codes "_pkey"
