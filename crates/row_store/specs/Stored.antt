-- What contracts see of stored rows.
use Rattle.std.specs.Prelude.{ℕ, ℤ, List, Option, refl}
use Rattle.std.specs.Coded.{Coded, code_by, coded×, coded_ℕ, coded_ℤ, coded_list}
use Rattle.std.specs.FinMap as map
use Rattle.std.specs.List.{find}
use Rattle.std.specs.Ordering.{int_cmp, is_le}
use Rattle.sql_base.specs.contracts.values.Value as value
use Rattle.sql_base.specs.declared.values.Value.{Value}

-- the row of each key
abbrev pub Rows : Type 0
Rows = map.FinMap int_cmp (List Value)

-- rows, and how many new keys may be put before memory is asked for again
pub record Stored : Type 0 where
  pub rows : Rows
  pub spare : ℕ

abbrev pub stored_code : Coded Stored
stored_code =
    code_by (Rows × ℕ) (coded× (map.code coded_ℤ (coded_list value.the_row.coded)) coded_ℕ) (λ s. (s.rows, s.spare)) (λ p. record { rows = p.0; spare = p.1 }) (λ _. refl)

-- the least key that isn't below this one, with its row
abbrev pub first_from : ℤ → Rows → Option (ℤ × List Value)
first_from key rows = find (λ entry. is_le (int_cmp key entry.0)) (map.entries rows)
