-- What contracts see of an index of values.
use Rattle.std.specs.Prelude.{ℕ, ℤ, ◌&&◌, Bool, not, List, Option, refl}
use Rattle.std.specs.Coded.{Coded, code_by, coded×, coded_ℕ, coded_ℤ, coded_list}
use Rattle.std.specs.FinMap as map
use Rattle.std.specs.List.{filter, list_any}
use Rattle.std.specs.Map.{keys_of}
use Rattle.std.specs.Ordering.{int_cmp, int_eq}
use Rattle.sql_base.specs.contracts.values.Value as value
use Rattle.sql_base.specs.declared.values.Value.{Value}
use Rattle.sql_eval.specs.Row.{all_alike, least, least_clash}

-- the values of each key
abbrev pub Entries : Type 0
Entries = map.FinMap int_cmp (List Value)

-- entries, and how many new keys may be put before memory is asked for again
pub record Indexed : Type 0 where
  pub entries : Entries
  pub spare : ℕ

abbrev pub indexed_code : Coded Indexed
indexed_code =
    code_by (Entries × ℕ) (coded× (map.code coded_ℤ (coded_list value.the_row.coded)) coded_ℕ) (λ s. (s.entries, s.spare)) (λ p. record { entries = p.0; spare = p.1 }) (λ _. refl)

-- The least key, other than this one, whose values are each like these, and so none of them NULL.
abbrev pub clash_in : Entries → List Value → ℤ → Option ℤ
clash_in entries values key = least_clash values (map.entries entries) key

-- Whether a key is one of these.
abbrev pub is_among : ℤ → List ℤ → Bool
is_among key keys = list_any (int_eq key) keys

-- The least key, none of these, whose values are each like these.
abbrev pub clash_beside : Entries → List Value → List ℤ → Option ℤ
clash_beside entries values keys =
    least (keys_of (filter (λ entry. not (is_among entry.0 keys) && all_alike values entry.1) (map.entries entries)))
