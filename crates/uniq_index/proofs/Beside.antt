-- Beside one key a clash is that key's.
use Rattle.std.proofs.Common.{◌≡◌, ◌∙◌, ℤ, List, [], ◌∷◌, Bool, true, false, ◌&&◌, ◌||◌, cond, not, refl, ap}
use Rattle.std.specs.FinMap as finite
use Rattle.std.specs.List.{filter}
use Rattle.std.specs.Map.{keys_of}
use Rattle.std.specs.Ordering.{int_eq}
use Rattle.sql_base.specs.declared.values.Value.{Value}
use Rattle.sql_eval.specs.Row.{all_alike, least}
use Rattle.uniq_index.specs.Laws.{BesideOneKey}
use Rattle.uniq_index.specs.Scan.{clashes}

or_false : (b : Bool) → (b || false) ≡ b
or_false true = refl
or_false false = refl

module _ (values : List Value) (key : ℤ) where
  abbrev of_key : ℤ × List Value → Bool
  of_key entry = not (int_eq entry.0 key) && all_alike values entry.1

  same_entries : (entries : List (ℤ × List Value)) → filter (clashes values (key ∷ [])) entries ≡ filter of_key entries
  same_entries [] = refl
  same_entries (entry ∷ entries) =
      ap (λ b. cond (not b && all_alike values entry.1) (entry ∷ filter (clashes values (key ∷ [])) entries) (filter (clashes values (key ∷ [])) entries)) (or_false (int_eq entry.0 key))
      ∙ ap (λ rest. cond (of_key entry) (entry ∷ rest) rest) (same_entries entries)

pub beside_one_key : BesideOneKey
beside_one_key entries values key = ap (λ found. least (keys_of found)) (same_entries values key (finite.entries entries))
