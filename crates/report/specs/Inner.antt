-- A row's values, as they are pushed one after another.
use Rattle.std.specs.Prelude.{ℕ, List, [], ◌∷◌, ◌++◌, codes}
use Rattle.std.specs.List.{flat_map}
use Rattle.sql_base.specs.declared.values.Value.{Value}
use Rattle.sql_text.specs.Printing.{value_text}

-- the first value, and each next one behind a bar
abbrev pub values_text : List Value → List ℕ
values_text [] = []
values_text (value ∷ values) = value_text value ++ flat_map (λ next. codes "|" ++ value_text next) values
