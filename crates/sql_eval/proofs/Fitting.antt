-- In a row that fits, the value of a column has the column's type.
use Rattle.std.proofs.Common.{◌≡◌, ℕ, ◌+◌, List, [], ◌∷◌, Bool, true, false, Option, Some, None, if◌then◌else◌, refl, arith}
use Rattle.std.specs.Prelude.{find, option_map}
use Rattle.std.specs.List.{position}
use Rattle.std.specs.Str.{bytes_eq}
use Rattle.std.proofs.lemmas.Grind.{common_steps}
use Rattle.sql_base.specs.declared.values.Value.{Value}
use Rattle.sql_base.specs.declared.shapes.Column.{Column}
use Rattle.sql_eval.specs.Eval.{value_at}
use Rattle.sql_eval.specs.Typing.{column_type}
use Rattle.sql_base.specs.Fit.{has_type, fits_columns}
use Rattle.sql_base.specs.Laws.{both}
use Rattle.sql_eval.specs.Laws.{Suits}

position-cons : (p : Column → Bool) (c : Column) (cs : List Column) → position p (c ∷ cs) ≡ (if p c then Some 0 else option_map (λ i. i + 1) (position p cs))
position-cons p c cs = grind (arith, common_steps)

value-next : (v : Value) (vs : List Value) (o : Option ℕ) → value_at (v ∷ vs) (option_map (λ i. i + 1) o) ≡ value_at vs o
value-next v vs None = refl
value-next v vs (Some i) = grind (arith, common_steps)

pub fits_suits : (name : List ℕ) (cs : List Column) (vs : List Value) → fits_columns cs vs ≡ true → Suits (column_type name (find (λ c. bytes_eq c.name name) cs)) (value_at vs (position (λ c. bytes_eq c.name name) cs))
fits_suits name [] [] h = tt
fits_suits name [] (v ∷ vs) h = cc
fits_suits name (c ∷ cs) [] h = cc
fits_suits name (c ∷ cs) (v ∷ vs) h =
    let parts = both (has_type (Some c.ty) v) (fits_columns cs vs) h in
    rw (position-cons (λ d. bytes_eq d.name name) c cs) (elim (bytes_eq c.name name) as (λ b. Suits (column_type name (if b then Some c else find (λ d. bytes_eq d.name name) cs)) (value_at (v ∷ vs) (if b then Some 0 else option_map (λ i. i + 1) (position (λ d. bytes_eq d.name name) cs)))) [
      | true ↦ parts.0
      | false ↦ rw (value-next v vs (position (λ d. bytes_eq d.name name) cs)) (fits_suits name cs vs parts.1)
    ])
