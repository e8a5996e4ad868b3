-- A row of another number of values doesn't fit.
use Rattle.std.proofs.Common.{◌≡◌, suc, ◌≢◌, ap, length, List, [], ◌∷◌, Bool, true, false, ◌&&◌, Some, refl}
use Rattle.sql_base.specs.declared.values.Value.{Value}
use Rattle.sql_base.specs.declared.shapes.Column.{Column}
use Rattle.sql_base.specs.Fit.{fits_columns, has_type}

pub different_lengths : (cs : List Column) (vs : List Value) → length cs ≢ length vs → fits_columns cs vs ≡ false
different_lengths [] [] h = absurd (h refl)
different_lengths [] (v ∷ vs) h = refl
different_lengths (c ∷ cs) [] h = refl
different_lengths (c ∷ cs) (v ∷ vs) h = rw (different_lengths cs vs (λ e. h (ap suc e))) (and_false (has_type (Some c.ty) v))
  where
    and_false : (b : Bool) → (b && false) ≡ false
    and_false true = refl
    and_false false = refl
