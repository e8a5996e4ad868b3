-- How many bytes a body has.
use Rattle.std.specs.Prelude.{ℕ, ◌+◌, List, length, Option, Some, None}
use Rattle.std.specs.List.{sum_by}
use Rattle.std.specs.Option.{option_map_or}
use Rattle.sql_base.specs.Weight.{weight}
use Rattle.sql_base.specs.declared.values.Value.{Value}
use Rattle.journal_rec.specs.declared.records.Record.{Record}
use Rattle.journal_rec.specs.declared.records.Record.TheVariants.{Start, Rows, Step}
use Rattle.journal_rec.specs.declared.records.RecordedRow.{RecordedRow}

-- A stored row has two bytes more than it weighs.
abbrev pub values_size : Option (List Value) → ℕ
values_size None = 0
values_size (Some values) = 2 + weight values

abbrev pub row_size : RecordedRow → ℕ
row_size row = 9 + values_size row.values

abbrev pub body_size : Record → ℕ
body_size (Start text) = 5 + length text
body_size (Rows table rows) = 9 + sum_by row_size rows
body_size (Step kind) = 2

-- what a row that is left weighs, as it is stored
abbrev pub stored_weight : RecordedRow → ℕ
stored_weight row = option_map_or weight row.values 0
