-- That a statement over the rows of its reach does what it does over all rows.
use Rattle.std.proofs.Common.{◌≡◌, ◌∙◌, ℕ, ℤ, List, [], ◌∷◌, Bool, true, false, cond, Option, Some, None, Result, Ok, Err, refl, sym, ap, map}
use Rattle.std.specs.Prelude.{slice_index_or}
use Rattle.std.specs.List.{filter_map}
use Rattle.std.specs.Ordering.{int_eq}
use Rattle.row_rules.specs.Changes.{matching, passes, row_passed}
use Rattle.row_rules.specs.InReach.{MatchesWithin, ShowsKey, ShowKeys, ShowsWithin}
use Rattle.row_rules.specs.Reach.{reach, rows_reached}
use Rattle.row_rules.specs.Rows.{rows_at}
use Rattle.row_rules.specs.Show.{room_after, row_shown, rows_shown, with_shown}
use Rattle.row_rules.specs.Site.{Site, shape_of, shown}
use Rattle.row_rules.specs.Words.{Cause, Expr, Int, Items, Kept, Null, Shape, SqlError, Value, and_then, every}
use Rattle.row_rules.proofs.Reaching.{false_elsewhere}
use Rattle.sql_eval.specs.Value.{is_truth}

-- ---- one row

misses : (shape : Shape) (condition : Option Expr) (values : List Value) (key n : ℤ) → slice_index_or values shape.key Null ≡ Int key → reach shape condition ≡ Some n → int_eq key n ≡ false → passes shape condition values ≡ Ok false
misses shape None values key n shows named differ = cc
misses shape (Some condition) values key n shows named differ =
    ap (λ r. and_then r (λ value. Ok (is_truth true value))) (false_elsewhere shape values key shows condition n named differ)

-- What a key's row adds to the rows of the key of a reach.
one_more : (n : ℤ) (row : Kept) (rows : List Kept) (b : Bool) → int_eq row.key n ≡ b → rows_at (n ∷ []) (row ∷ rows) ≡ cond b (row ∷ rows_at (n ∷ []) rows) (rows_at (n ∷ []) rows)
one_more n row rows true e = rw e refl
one_more n row rows false e = rw e refl

-- ---- the rows that pass

abbrev with_row : Option Kept → List Kept → List Kept
with_row None rows = rows
with_row (Some row) rows = row ∷ rows

abbrev joined : Result (Option Kept) Cause → Result (List Kept) Cause → Result (List Kept) Cause
joined first rest = and_then first (λ row. and_then rest (λ rows. Ok (with_row row rows)))

matching_more : (site : Site) (condition : Option Expr) (row : Kept) (rows : List Kept) → matching site condition (row ∷ rows) ≡ joined (row_passed site condition row) (matching site condition rows)
matching_more site condition row rows = by_results (row_passed site condition row) (every (map (row_passed site condition) rows))
  where
    by_results : (first : Result (Option Kept) Cause) (rest : Result (List (Option Kept)) Cause) →
        and_then (and_then first (λ x. and_then rest (λ xs. Ok (x ∷ xs)))) (λ passed. Ok (filter_map (λ row. row) passed))
        ≡ joined first (and_then rest (λ passed. Ok (filter_map (λ row. row) passed)))
    by_results (Err e) rest = refl
    by_results (Ok x) (Err e) = refl
    by_results (Ok None) (Ok xs) = refl
    by_results (Ok (Some row)) (Ok xs) = refl

nothing_joined : (rest : Result (List Kept) Cause) → joined (Ok None) rest ≡ rest
nothing_joined (Ok rows) = refl
nothing_joined (Err e) = refl

-- What a SELECT shows of a row and of those after it.
abbrev after : ℕ → Result (Option (List Value)) SqlError → (ℕ → Result (List (List Value)) SqlError) → Result (List (List Value)) SqlError
after room first rest = and_then first (λ one. and_then (rest (room_after room one)) (λ more. Ok (with_shown one more)))

same_after : (first : Result (Option (List Value)) SqlError) (room : ℕ) (rest other : ℕ → Result (List (List Value)) SqlError) → ((left : ℕ) → rest left ≡ other left) → after room first rest ≡ after room first other
same_after (Ok one) room rest other same = ap (λ r. and_then r (λ more. Ok (with_shown one more))) (same (room_after room one))
same_after (Err e) room rest other same = refl

nothing_before : (rest : Result (List (List Value)) SqlError) → and_then rest (λ more. Ok more) ≡ rest
nothing_before (Ok more) = refl
nothing_before (Err e) = refl

module _ (site : Site) (condition : Option Expr) (n : ℤ) (named : reach (shape_of site.here) condition ≡ Some n) where
  passes_not : (row : Kept) → ShowsKey site row → int_eq row.key n ≡ false → passes (shape_of site.here) condition (shown site row.halves) ≡ Ok false
  passes_not row shows differ = misses (shape_of site.here) condition (shown site row.halves) row.key n shows named differ

  same_matching : (rows : List Kept) → ShowKeys site rows → matching site condition rows ≡ matching site condition (rows_at (n ∷ []) rows)
  same_matching [] shows = refl
  same_matching (row ∷ rows) shows = by_test (same_matching rows shows.1) (int_eq row.key n) refl
    where
      by_test : matching site condition rows ≡ matching site condition (rows_at (n ∷ []) rows) → (b : Bool) → int_eq row.key n ≡ b → matching site condition (row ∷ rows) ≡ matching site condition (rows_at (n ∷ []) (row ∷ rows))
      by_test there true e =
          matching_more site condition row rows ∙ ap (joined (row_passed site condition row)) there
          ∙ sym (matching_more site condition row (rows_at (n ∷ []) rows)) ∙ sym (ap (matching site condition) (one_more n row rows true e))
      by_test there false e =
          let missed : row_passed site condition row ≡ Ok None = rw (passes_not row shows.0 e) refl in
          matching_more site condition row rows ∙ ap (λ r. joined r (matching site condition rows)) missed
          ∙ nothing_joined (matching site condition rows) ∙ there ∙ sym (ap (matching site condition) (one_more n row rows false e))

  same_shown : (items : Items) (room : ℕ) (rows : List Kept) → ShowKeys site rows → rows_shown site items condition room rows ≡ rows_shown site items condition room (rows_at (n ∷ []) rows)
  same_shown items room [] shows = refl
  same_shown items room (row ∷ rows) shows = by_test (λ left. same_shown items left rows shows.1) (int_eq row.key n) refl
    where
      by_test : ((left : ℕ) → rows_shown site items condition left rows ≡ rows_shown site items condition left (rows_at (n ∷ []) rows)) → (b : Bool) → int_eq row.key n ≡ b → rows_shown site items condition room (row ∷ rows) ≡ rows_shown site items condition room (rows_at (n ∷ []) (row ∷ rows))
      by_test there true e =
          same_after (row_shown site items condition room row) room (λ left. rows_shown site items condition left rows) (λ left. rows_shown site items condition left (rows_at (n ∷ []) rows)) there
          ∙ sym (ap (rows_shown site items condition room) (one_more n row rows true e))
      by_test there false e =
          let missed : row_shown site items condition room row ≡ Ok None = rw (passes_not row shows.0 e) refl in
          ap (λ r. after room r (λ left. rows_shown site items condition left rows)) missed
          ∙ nothing_before (rows_shown site items condition room rows) ∙ there room ∙ sym (ap (rows_shown site items condition room) (one_more n row rows false e))

-- ---- all reaches

pub matches_within : MatchesWithin
matches_within site condition rows shows = by_reach (reach (shape_of site.here) condition) refl
  where
    by_reach : (found : Option ℤ) → reach (shape_of site.here) condition ≡ found → matching site condition rows ≡ matching site condition (rows_reached found rows)
    by_reach None is = refl
    by_reach (Some n) is = same_matching site condition n is rows shows

pub shows_within : ShowsWithin
shows_within site items condition room rows shows = by_reach (reach (shape_of site.here) condition) refl
  where
    by_reach : (found : Option ℤ) → reach (shape_of site.here) condition ≡ found → rows_shown site items condition room rows ≡ rows_shown site items condition room (rows_reached found rows)
    by_reach None is = refl
    by_reach (Some n) is = same_shown site condition n is items room rows shows
