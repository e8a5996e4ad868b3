-- How much values weigh. All of it is our own.
use Rattle.std.specs.Prelude.{ℕ, ◌+◌, List, length}
use Rattle.std.specs.List.{sum_by}
use Rattle.sql_base.specs.declared.values.Value.{Value}
use Rattle.sql_base.specs.declared.values.Value.TheVariants.{Null, Int, Text, Bool as Truth}

-- of one value
abbrev pub value_weight : Value → ℕ
value_weight Null = 1
value_weight (Int n) = 9
value_weight (Text bytes) = 3 + length bytes
value_weight (Truth b) = 2

-- of a half of a row: the sum
abbrev pub weight : List Value → ℕ
weight values = sum_by value_weight values
