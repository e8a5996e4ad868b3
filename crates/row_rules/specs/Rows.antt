-- Rows in order, and rows whose new half is missing.
use Rattle.std.specs.Prelude.{◌≡◌, ℤ, pos, List, [], ◌∷◌, Option, Some, None, map, unwrap_or}
use Rattle.std.specs.List.{filter, list_any}
use Rattle.std.specs.Int.{int_max}
use Rattle.std.specs.Ordering.{int_cmp, int_eq}
use Rattle.std.specs.declared.cmp.Ordering.TheVariants.{Less}
use Rattle.row_rules.specs.Site.{is_missing}
use Rattle.row_rules.specs.Words.{Kept, least}

-- The keys of these rows ascend strictly.
abbrev pub Ascends : List Kept → Type 0
Ascends [] = Unit {0}
Ascends (row ∷ []) = Unit {0}
Ascends (row ∷ next ∷ rows) = (int_cmp row.key next.key ≡ Less) × Ascends (next ∷ rows)

-- The keys of the rows that are still to be filled, in their order.
abbrev pub missing_keys : List Kept → List ℤ
missing_keys rows = map (λ row. row.key) (filter is_missing rows)

-- The rows of these keys.
abbrev pub rows_at : List ℤ → List Kept → List Kept
rows_at keys rows = filter (λ row. list_any (int_eq row.key) keys) rows

-- The greatest of these keys.
abbrev pub greatest : List ℤ → Option ℤ
greatest [] = None
greatest (k ∷ ks) = Some (elim (greatest ks) [ None ↦ k | Some l ↦ int_max k l ])

-- The least and the greatest key of rows, of which there is at least one.
abbrev pub least_key : List ℤ → ℤ
least_key keys = unwrap_or (least keys) (pos 0)

abbrev pub greatest_key : List ℤ → ℤ
greatest_key keys = unwrap_or (greatest keys) (pos 0)
