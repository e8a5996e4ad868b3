-- Values of different numbers aren't alike.
use Rattle.std.proofs.Common.{◌≡◌, ◌∙◌, suc, ◌≢◌, ap, sym, length, List, [], ◌∷◌, ℕ, false, map, refl}
use Rattle.std.proofs.lemmas.List.{length-map}
use Rattle.sql_base.specs.declared.values.Value.{Value}
use Rattle.sql_base.specs.Laws.{and_false}
use Rattle.sql_eval.specs.Row.{all_alike}
use Rattle.sql_eval.specs.Value.{alike}

pub different_lengths : (xs ys : List Value) → length xs ≢ length ys → all_alike xs ys ≡ false
different_lengths [] [] h = absurd (h refl)
different_lengths [] (y ∷ ys) h = refl
different_lengths (x ∷ xs) [] h = refl
different_lengths (x ∷ xs) (y ∷ ys) h = rw (different_lengths xs ys (λ e. h (ap suc e))) (and_false (alike x y))

pub different_columns : (value : ℕ → Value) (columns : List ℕ) (values : List Value) → length columns ≢ length values → all_alike (map value columns) values ≡ false
different_columns value columns values h = different_lengths (map value columns) values (λ e. h (sym (length-map columns value) ∙ e))
