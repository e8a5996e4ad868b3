-- One more row that a WHERE is looked at for.
use Rattle.std.proofs.Common.{◌≡◌, List, [], ◌∷◌, ◌++◌, true, false, Some, None, Option, Result, Ok, Err, map, refl, sym, ap, append_assoc}
use Rattle.std.specs.List.{filter_map}
use Rattle.sql_base.specs.Outcome.{and_then, every}
use Rattle.row_rules.specs.Changes.{matching, row_passed}
use Rattle.row_rules.specs.Inner.{has_passed, removed}
use Rattle.row_rules.specs.Outcome.{Answers}
use Rattle.row_rules.specs.Site.{Site}
use Rattle.row_rules.specs.Words.{Cause, Change, Expr, Kept, Remove}
use Rattle.row_rules.specs.declared.stops.Stop.{Stop}
use Rattle.row_rules.specs.declared.stops.Stop.TheVariants.{Because, NoMemory}

abbrev absent : Option Kept
absent = None

module _ (site : Site) (condition : Option Expr) (row : Kept) (rows : List Kept) where
  pub passed_on : (done : List Kept) → has_passed site condition row ≡ Ok true
      → and_then (matching site condition (row ∷ rows)) (λ rest. Ok (done ++ rest)) ≡ and_then (matching site condition rows) (λ rest. Ok ((done ++ row ∷ []) ++ rest))
  passed_on done h = rw h (by_rest (every (map (row_passed site condition) rows)))
    where
      by_rest : (rest : Result (List (Option Kept)) Cause) →
          and_then (and_then (and_then rest (λ rest. Ok (Some row ∷ rest))) (λ passed. Ok (filter_map (λ row. row) passed))) (λ rest. Ok (done ++ rest))
          ≡ and_then (and_then rest (λ passed. Ok (filter_map (λ row. row) passed))) (λ rest. Ok ((done ++ row ∷ []) ++ rest))
      by_rest (Ok rest) = ap (λ all. Ok all) (sym (append_assoc done (row ∷ []) (filter_map (λ row. row) rest)))
      by_rest (Err cause) = refl

  pub passed_by : (done : List Kept) → has_passed site condition row ≡ Ok false
      → and_then (matching site condition (row ∷ rows)) (λ rest. Ok (done ++ rest)) ≡ and_then (matching site condition rows) (λ rest. Ok (done ++ rest))
  passed_by done h = rw h (by_rest (every (map (row_passed site condition) rows)))
    where
      by_rest : (rest : Result (List (Option Kept)) Cause) →
          and_then (and_then (and_then rest (λ rest. Ok (absent ∷ rest))) (λ passed. Ok (filter_map (λ row. row) passed))) (λ rest. Ok (done ++ rest))
          ≡ and_then (and_then rest (λ passed. Ok (filter_map (λ row. row) passed))) (λ rest. Ok (done ++ rest))
      by_rest (Ok rest) = refl
      by_rest (Err cause) = refl

  pub passing_stops : (done : List Kept) (stop : Stop Cause) → Answers (has_passed site condition row) (Err stop)
      → Answers (and_then (matching site condition (row ∷ rows)) (λ rest. Ok (done ++ rest))) (Err stop)
  passing_stops done (Because cause) h = rw h refl
  passing_stops done NoMemory h = tt

  pub removed_on : (done : List Change) → has_passed site condition row ≡ Ok true
      → and_then (removed site condition (row ∷ rows)) (λ rest. Ok (done ++ rest)) ≡ and_then (removed site condition rows) (λ rest. Ok ((done ++ Remove row.key ∷ []) ++ rest))
  removed_on done h = rw h (by_rest (every (map (row_passed site condition) rows)))
    where
      by_rest : (rest : Result (List (Option Kept)) Cause) →
          and_then (and_then (and_then (and_then rest (λ rest. Ok (Some row ∷ rest))) (λ passed. Ok (filter_map (λ row. row) passed))) (λ rows. Ok (map (λ row. Remove row.key) rows))) (λ rest. Ok (done ++ rest))
          ≡ and_then (and_then (and_then rest (λ passed. Ok (filter_map (λ row. row) passed))) (λ rows. Ok (map (λ row. Remove row.key) rows))) (λ rest. Ok ((done ++ Remove row.key ∷ []) ++ rest))
      by_rest (Ok rest) = ap (λ all. Ok all) (sym (append_assoc done (Remove row.key ∷ []) (map (λ row. Remove row.key) (filter_map (λ row. row) rest))))
      by_rest (Err cause) = refl

  pub removed_by : (done : List Change) → has_passed site condition row ≡ Ok false
      → and_then (removed site condition (row ∷ rows)) (λ rest. Ok (done ++ rest)) ≡ and_then (removed site condition rows) (λ rest. Ok (done ++ rest))
  removed_by done h = rw h (by_rest (every (map (row_passed site condition) rows)))
    where
      by_rest : (rest : Result (List (Option Kept)) Cause) →
          and_then (and_then (and_then (and_then rest (λ rest. Ok (absent ∷ rest))) (λ passed. Ok (filter_map (λ row. row) passed))) (λ rows. Ok (map (λ row. Remove row.key) rows))) (λ rest. Ok (done ++ rest))
          ≡ and_then (and_then (and_then rest (λ passed. Ok (filter_map (λ row. row) passed))) (λ rows. Ok (map (λ row. Remove row.key) rows))) (λ rest. Ok (done ++ rest))
      by_rest (Ok rest) = refl
      by_rest (Err cause) = refl

  pub removing_stops : (done : List Change) (stop : Stop Cause) → Answers (has_passed site condition row) (Err stop)
      → Answers (and_then (removed site condition (row ∷ rows)) (λ rest. Ok (done ++ rest))) (Err stop)
  removing_stops done (Because cause) h = rw h refl
  removing_stops done NoMemory h = tt
