-- One row of the same values is a clash.
use Rattle.std.proofs.Common.{◌≡◌, ℤ, List, [], ◌∷◌, Bool, true, false, not, ◌&&◌, ◌||◌, cond, Some, None, map, refl}
use Rattle.std.specs.Prelude.{is_some}
use Rattle.std.specs.List.{cons_option, filter, list_any}
use Rattle.std.specs.Map.{keys_of}
use Rattle.std.specs.Option.{option_map, option_map_or}
use Rattle.std.specs.Ordering.{int_eq}
use Rattle.sql_base.specs.declared.shapes.Unique.{Unique}
use Rattle.sql_base.specs.declared.values.Value.{Value}
use Rattle.sql_eval.specs.Row.{all_alike, least, least_clash, values_of}
use Rattle.mig_lens.specs.declared.columns.Side.{Side}
use Rattle.row_rules.specs.Words.{Kept}
use Rattle.row_rules.specs.Accept.{present}
use Rattle.row_rules.specs.Inner.{other_has}
use Rattle.row_rules.specs.Site.{half}

pub another_clashes : (unique : Unique) (side : Side) (key : ℤ) (values : List Value) (rows : List Kept) →
    list_any (other_has unique side key values) rows ≡ is_some (least_clash (values_of unique values) (map (λ r. (r.0, values_of unique r.1)) (present side rows)) key)
another_clashes unique side key values [] = refl
another_clashes unique side key values (row ∷ rows) =
    elim (half side row.halves) as (λ h.
    (option_map_or (λ others. not (int_eq row.key key) && all_alike (values_of unique values) (values_of unique others)) h false || list_any (other_has unique side key values) rows)
    ≡ is_some (least_clash (values_of unique values) (map (λ r. (r.0, values_of unique r.1)) (cons_option (option_map (λ v. (row.key, v)) h) (present side rows))) key)) [
      | None ↦ another_clashes unique side key values rows
      | Some others ↦ by_test others (not (int_eq row.key key) && all_alike (values_of unique values) (values_of unique others)) (another_clashes unique side key values rows)
    ]
  where
    entries : List (ℤ × List Value)
    entries = map (λ r. (r.0, values_of unique r.1)) (present side rows)

    p : ℤ × List Value → Bool
    p entry = not (int_eq entry.0 key) && all_alike (values_of unique values) entry.1

    by_test : (others : List Value) (b : Bool) →
        list_any (other_has unique side key values) rows ≡ is_some (least (keys_of (filter p entries))) →
        (b || list_any (other_has unique side key values) rows) ≡ is_some (least (keys_of (cond b ((row.key, values_of unique others) ∷ filter p entries) (filter p entries))))
    by_test others true h = refl
    by_test others false h = h
