-- Places in a list of entries whose keys rise.
use Rattle.std.specs.Prelude.{ℕ, suc, ℤ, List, [], ◌∷◌, Option, Some, None, if◌then◌else◌}
use Rattle.std.specs.Ordering.{int_cmp, int_eq, match_ordering}

module _ {X : Type 0} where
  -- how many entries at the front have lesser keys
  abbrev pub place : ℤ → List (ℤ × X) → ℕ
  place key [] = 0
  place key (entry ∷ entries) = match_ordering (int_cmp key entry.0) 0 0 (suc (place key entries))

  -- what the entry has, if it has this key
  abbrev pub value_at : ℤ → Option (ℤ × X) → Option X
  value_at key None = None
  value_at key (Some entry) = if int_eq key entry.0 then Some entry.1 else None
