-- Whether rows are still to be filled.
use Rattle.std.proofs.Common.{◌≡◌, List, [], ◌∷◌, length, nat_lt, refl, arith}
use Rattle.std.specs.List.{list_any}
use Rattle.row_rules.specs.Rows.{missing_keys}
use Rattle.row_rules.specs.Site.{is_missing}
use Rattle.row_rules.specs.declared.kinds.Kept.{Kept}

pub any_missing_keys : (rows : List Kept) → list_any is_missing rows ≡ nat_lt 0 (length (missing_keys rows))
any_missing_keys [] = refl
any_missing_keys (row ∷ rows) = grind (arith, any_missing_keys rows)
