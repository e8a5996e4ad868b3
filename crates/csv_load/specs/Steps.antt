-- For the code.
use Rattle.std.specs.Prelude.{ℕ, List, ◌++◌, map, not, Option, None, Some, Result, Ok, Err, if◌then◌else◌, length}
use Rattle.std.specs.List.{filter_map, list_all, position_from}
use Rattle.std.specs.Option.{option_map_or}
use Rattle.sql_base.specs.declared.exprs.Expr.{Expr}
use Rattle.sql_base.specs.declared.faults.ScriptFault.{ScriptFault}
use Rattle.sql_base.specs.declared.faults.ScriptFault.TheVariants.{Line}
use Rattle.sql_base.specs.declared.shapes.Shape.{Shape}
use Rattle.sql_base.specs.declared.values.Ty.{Ty}
use Rattle.sql_text.specs.Identifier.{name_in}
use Rattle.csv_load.specs.Load.{is_header, is_line, is_text, loaded, value_of, values_of}
use Rattle.csv_load.specs.declared.loading.Loaded.{Loaded}

-- the names of a header
abbrev pub names_of : List (List ℕ) → Option (List (List ℕ))
names_of fields = if is_header fields then Some (filter_map name_in fields) else None

-- the value of a field that is a text
abbrev pub text_value : Ty → List ℕ → Option Expr
text_value to field = if is_text field then Some (value_of to field) else None

-- the values of fields that are texts
abbrev pub text_values : Option Shape → List (List ℕ) → List (List ℕ) → Option (List Expr)
text_values shape names fields = if list_all is_text fields then Some (values_of shape names fields) else None

-- One record, of this number.
abbrev pub line_at : List ℕ → Option Shape → List (List ℕ) → ℕ → List (List ℕ) → Result Loaded ScriptFault
line_at table shape names number fields =
    if is_line (length names) fields then Ok (loaded table shape names fields) else Err (Line number)

-- The records behind the header, of which the first has this number, where these are read.
abbrev pub lines_from : List ℕ → Option Shape → List (List ℕ) → ℕ → List Loaded → List (List (List ℕ)) → Result (List Loaded) ScriptFault
lines_from table shape names number read rows =
    option_map_or (λ bad. Err (Line bad))
    (position_from (λ fields. not (is_line (length names) fields)) number rows)
    (Ok (read ++ map (loaded table shape names) rows))
