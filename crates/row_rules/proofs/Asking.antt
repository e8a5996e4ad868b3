-- One more row of a SELECT.
use Rattle.std.proofs.Common.{◌≡◌, ℕ, List, [], ◌∷◌, ◌++◌, Some, None, Option, Result, Ok, Err, refl, sym, ap, append_assoc}
use Rattle.std.specs.Prelude.{option_to_list}
use Rattle.sql_base.specs.Outcome.{and_then}
use Rattle.row_rules.specs.Outcome.{Answers}
use Rattle.row_rules.specs.Show.{room_after, row_shown, rows_shown, with_shown}
use Rattle.row_rules.specs.Site.{Site}
use Rattle.row_rules.specs.Words.{Expr, Items, Kept, SqlError, Value}
use Rattle.row_rules.specs.declared.stops.Stop.{Stop}
use Rattle.row_rules.specs.declared.stops.Stop.TheVariants.{Because, NoMemory}

module _ (site : Site) (items : Items) (condition : Option Expr) (room : ℕ) (row : Kept) (rows : List Kept) where
  pub shown_on : (all : List (List Value)) (first : Option (List Value)) → row_shown site items condition room row ≡ Ok first
      → and_then (rows_shown site items condition room (row ∷ rows)) (λ more. Ok (all ++ more))
      ≡ and_then (rows_shown site items condition (room_after room first) rows) (λ more. Ok ((all ++ option_to_list first) ++ more))
  shown_on all first h = rw h (by_rest first (rows_shown site items condition (room_after room first) rows))
    where
      by_rest : (first : Option (List Value)) (rest : Result (List (List Value)) SqlError) →
          and_then (and_then rest (λ more. Ok (with_shown first more))) (λ more. Ok (all ++ more)) ≡ and_then rest (λ more. Ok ((all ++ option_to_list first) ++ more))
      by_rest (Some values) (Ok rest) = ap (λ all. Ok all) (sym (append_assoc all (values ∷ []) rest))
      by_rest None (Ok rest) = ap (λ all. Ok all) (sym (append_assoc all [] rest))
      by_rest first (Err error) = refl

  pub showing_stops : (all : List (List Value)) (stop : Stop SqlError) → Answers (row_shown site items condition room row) (Err stop)
      → Answers (and_then (rows_shown site items condition room (row ∷ rows)) (λ more. Ok (all ++ more))) (Err stop)
  showing_stops all (Because error) h = rw h refl
  showing_stops all NoMemory h = tt
