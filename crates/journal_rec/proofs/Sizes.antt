-- How many bytes a body has.
use Rattle.std.proofs.Common.{◌≡◌, ℕ, ◌+◌, ◌*◌, ◌≤◌, List, [], ◌∷◌, length, Option, Some, None, refl, ap, ◌∙◌, true, false, arith}
use Rattle.std.specs.List.{sum_by, flat_map}
use Rattle.std.specs.Option.{option_map_or}
use Rattle.std.proofs.lemmas.List.{length-append}
use Rattle.std.proofs.lemmas.List.Concat.{length-flat_map}
use Rattle.std.proofs.lemmas.List.Sums.{sum_by-cons}
use Rattle.sql_base.specs.Weight.{value_weight, weight}
use Rattle.sql_base.specs.declared.values.Value.{Value}
use Rattle.sql_base.specs.declared.values.Value.TheVariants.{Null, Int, Text, Bool as Truth}
use Rattle.journal_rec.specs.declared.records.Record.{Record}
use Rattle.journal_rec.specs.declared.records.Record.TheVariants.{Start, Rows, Step}
use Rattle.journal_rec.specs.declared.records.RecordedRow.{RecordedRow}
use Rattle.journal_rec.specs.Body.{int_bytes, value_bytes, rest_bytes, row_bytes, body_of}
use Rattle.journal_rec.specs.Size.{values_size, row_size, body_size, stored_weight}

of_value : (v : Value) → length (value_bytes v) ≡ value_weight v
of_value Null = refl
of_value (Int n) = refl
of_value (Text bytes) = omega arith
of_value (Truth false) = refl
of_value (Truth true) = refl

of_each : {X : Type 0} (form : X → List ℕ) (size : X → ℕ) → ((x : X) → length (form x) ≡ size x) → (xs : List X) → length (flat_map form xs) ≡ sum_by size xs
of_each {X} form size each xs = length-flat_map form xs ∙ ap (λ (f : X → ℕ). sum_by f xs) (λ i x. each x i)

of_rest : (values : Option (List Value)) → length (rest_bytes values) ≡ 1 + values_size values
of_rest None = refl
of_rest (Some values) = omega (arith, of_each value_bytes value_weight of_value values)

of_row : (row : RecordedRow) → length (row_bytes row) ≡ row_size row
of_row row = omega (arith, length-append (int_bytes row.key) (rest_bytes row.values), of_rest row.values)

pub of_body : (r : Record) → length (body_of r) ≡ body_size r
of_body (Start text) = omega arith
of_body (Rows table rows) = omega (arith, of_each row_bytes row_size of_row rows)
of_body (Step kind) = refl

-- ---- at most

row_within : (row : RecordedRow) → row_size row ≤ 11 + stored_weight row
row_within row = cases row.values
  where
    cases : (values : Option (List Value)) → 9 + values_size values ≤ 11 + option_map_or weight values 0
    cases None = omega arith
    cases (Some values) = omega arith

rows_within : (rows : List RecordedRow) → sum_by row_size rows ≤ 11 * length rows + sum_by stored_weight rows
rows_within [] = omega arith
rows_within (row ∷ rows) = omega (arith, sum_by-cons row_size row rows, sum_by-cons stored_weight row rows, row_within row, rows_within rows)

pub rows_bounded : (table : ℕ) (rows : List RecordedRow) → body_size (Rows table rows) ≤ 9 + 11 * length rows + sum_by stored_weight rows
rows_bounded table rows = omega (arith, rows_within rows)
