-- What the crate's own steps stand for. No public contract rests on these words.
use Rattle.std.specs.Prelude.{ℕ, ℤ, List, Option, map, slice_index_or}
use Rattle.sql_base.specs.declared.shapes.Unique.{Unique}
use Rattle.sql_base.specs.declared.values.Value.{Value}
use Rattle.sql_base.specs.declared.values.Value.TheVariants.{Null}
use Rattle.sql_eval.specs.Row.{least_clash, values_of}

-- Of rows, the least other key whose values in the unique's columns are each like those of this row.
abbrev pub least_alike : Unique → List Value → List (ℤ × List Value) → ℤ → Option ℤ
least_alike unique values rows key = least_clash (values_of unique values) (map (λ r. (r.0, values_of unique r.1)) rows) key

-- a row's values in these columns
abbrev pub values_at : List ℕ → List Value → List Value
values_at columns row = map (λ at. slice_index_or row at Null) columns
