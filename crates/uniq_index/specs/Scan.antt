-- What a scan of entries stands for. No public contract rests on these words.
use Rattle.std.specs.Prelude.{ℤ, List, [], ◌∷◌, Bool, not, ◌&&◌, Option, Some, None, map, slice_index_or, if◌then◌else◌}
use Rattle.std.specs.Option.{option_and_then, option_or}
use Rattle.sql_base.specs.declared.values.Value.{Value}
use Rattle.sql_base.specs.declared.values.Value.TheVariants.{Null}
use Rattle.sql_eval.specs.Row.{all_alike}
use Rattle.uniq_index.specs.Indexed.{is_among}
use Rattle.uniq_index.specs.declared.scanning.Sought.{Sought}
use Rattle.uniq_index.specs.declared.scanning.Sought.TheVariants.{Listed, Row}

-- The values that are looked for.
abbrev pub values_sought : Sought → List Value
values_sought (Listed values) = values.now
values_sought (Row columns row) = map (λ at. slice_index_or row.now at Null) columns.now

-- Whether an entry has none of these keys, and has these values.
abbrev pub clashes : List Value → List ℤ → ℤ × List Value → Bool
clashes values keys entry = not (is_among entry.0 keys) && all_alike values entry.1

-- the key of an entry that does
abbrev pub key_clashing : List Value → List ℤ → ℤ × List Value → Option ℤ
key_clashing values keys entry = if clashes values keys entry then Some entry.0 else None

-- the key of the first entry that does
abbrev pub first_clashing : List Value → List ℤ → List (ℤ × List Value) → Option ℤ
first_clashing values keys [] = None
first_clashing values keys (entry ∷ entries) = option_or (key_clashing values keys entry) (first_clashing values keys entries)

-- of an entry that may not be there
abbrev pub key_at : List Value → List ℤ → Option (ℤ × List Value) → Option ℤ
key_at values keys entry = option_and_then (key_clashing values keys) entry
