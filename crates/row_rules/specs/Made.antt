-- What holds of the rows that a job makes holds of those that its changes put, whatever it is that holds of them.
use Rattle.std.specs.Prelude.{◌≡◌, List, [], ◌∷◌, Bool, true, false, Option, Some, None, Result, Ok, map, if◌then◌else◌}
use Rattle.std.specs.List.{AllByRecursion as Each, filter_map}
use Rattle.std.proofs.Common.{subst}
use Rattle.sql_base.specs.Laws.{and_then_ok, ok_same}
use Rattle.row_rules.specs.Causes.{value_cause}
use Rattle.row_rules.specs.Changes.{altered_row, changes, filled_row, matching, new_row, passes, put_all, row_passed}
use Rattle.row_rules.specs.Outcome.{map_fault}
use Rattle.row_rules.specs.Site.{Site, shape_of, shown}
use Rattle.row_rules.specs.Words.{Cause, Change, Expr, Job, Kept, Put, Remove, and_then, every}
use Rattle.row_rules.specs.Words.job

-- It holds of the row, where one is put.
abbrev pub OfPut : (Kept → Type 0) → Change → Type 0
OfPut Holds (Put row) = Holds row
OfPut Holds (Remove key) = Unit {0}

-- What holds of each value that is made of what something holds of.
pub every_made : {X Y E : Type 0} (f : X → Result Y E) (P : X → Type 0) (Q : Y → Type 0) → ((x : X) (y : Y) → P x → f x ≡ Ok y → Q y) → (xs : List X) (ys : List Y) → Each P xs → every (map f xs) ≡ Ok ys → Each Q ys
every_made f P Q h [] ys p e = subst (Each Q) (ok_same [] ys e) tt
every_made f P Q h (x ∷ xs) ys p e =
    let first = and_then_ok (f x) (λ y. and_then (every (map f xs)) (λ ys. Ok (y ∷ ys))) ys e in
    let rest = and_then_ok (every (map f xs)) (λ ys. Ok (first.0 ∷ ys)) ys first.2 in
    subst (Each Q) (ok_same (first.0 ∷ rest.0) ys rest.2) (h x first.0 p.0 first.1, every_made f P Q h xs rest.0 p.1 rest.1)

-- ---- rows that pass

-- It holds of a row, where there is one.
abbrev pub IfThere : (Kept → Type 0) → Option Kept → Type 0
IfThere P None = Unit {0}
IfThere P (Some row) = P row

passed_there : (P : Kept → Type 0) (site : Site) (condition : Option Expr) (row : Kept) (o : Option Kept) → P row → row_passed site condition row ≡ Ok o → IfThere P o
passed_there P site condition row o p h =
    let step = and_then_ok (map_fault (value_cause row.key) (passes (shape_of site.here) condition (shown site row.halves))) (λ passed. Ok (if passed then Some row else None)) o h in
    subst (IfThere P) (ok_same (if step.0 then Some row else None) o step.2) (by_test step.0)
  where
    by_test : (b : Bool) → IfThere P (if b then Some row else None)
    by_test true = p
    by_test false = tt

all_there : (P : Kept → Type 0) (found : List (Option Kept)) → Each (IfThere P) found → Each P (filter_map (λ row. row) found)
all_there P [] h = tt
all_there P (None ∷ found) h = all_there P found h.1
all_there P (Some row ∷ found) h = (h.0, all_there P found h.1)

-- What holds of rows holds of those that pass.
pub matching_each : (P : Kept → Type 0) (site : Site) (condition : Option Expr) (rows passed : List Kept) → Each P rows → matching site condition rows ≡ Ok passed → Each P passed
matching_each P site condition rows passed p h =
    let step = and_then_ok (every (map (row_passed site condition) rows)) (λ passed. Ok (filter_map (λ row. row) passed)) passed h in
    let there = every_made (row_passed site condition) P (IfThere P) (passed_there P site condition) rows step.0 p step.1 in
    subst (Each P) (ok_same (filter_map (λ row. row) step.0) passed step.2) (all_there P step.0 there)

-- ---- the changes of a job

-- The rows that a job makes of such rows are such ones.
abbrev pub Makes : (Before After : Kept → Type 0) → Site → Job → Type 0
Makes Before After site (job.Put rows) = Each (λ values. (row : Kept) → new_row site values ≡ Ok row → After row) rows
Makes Before After site (job.Alter sets condition) = (row made : Kept) → Before row → altered_row site sets row ≡ Ok made → After made
Makes Before After site (job.Remove condition) = Unit {0}
Makes Before After site job.Fill = (row made : Kept) → Before row → filled_row site row ≡ Ok made → After made

module _ (Before After : Kept → Type 0) (site : Site) where
  puts_each : (rows : List Kept) → Each After rows → Each (OfPut After) (map Put rows)
  puts_each [] h = tt
  puts_each (row ∷ rows) h = (h.0, puts_each rows h.1)

  all_put : (r : Result (List Kept) Cause) (all : List Change) → ((rows : List Kept) → r ≡ Ok rows → Each After rows) → put_all r ≡ Ok all → Each (OfPut After) all
  all_put r all h e =
      let step = and_then_ok r (λ rows. Ok (map Put rows)) all e in
      subst (Each (OfPut After)) (ok_same (map Put step.0) all step.2) (puts_each step.0 (h step.0 step.1))

  all_removed : (rows : List Kept) → Each (OfPut After) (map (λ row. Remove row.key) rows)
  all_removed [] = tt
  all_removed (row ∷ rows) = (tt, all_removed rows)

  pub changes_made : (what : Job) (older : List Kept) (all : List Change) → Makes Before After site what → Each Before older → changes site what older ≡ Ok all → Each (OfPut After) all
  changes_made (job.Put rows) older all m b h =
      all_put (every (map (new_row site) rows)) all
      (λ new e. every_made (new_row site) (λ values. (row : Kept) → new_row site values ≡ Ok row → After row) After (λ values row made. made row) rows new m e) h
  changes_made (job.Alter sets condition) older all m b h =
      all_put (and_then (matching site condition older) (λ rows. every (map (altered_row site sets) rows))) all
      (λ new e.
      let step = and_then_ok (matching site condition older) (λ rows. every (map (altered_row site sets) rows)) new e in
      every_made (altered_row site sets) Before After m step.0 new (matching_each Before site condition older step.0 b step.1) step.2) h
  changes_made (job.Remove condition) older all m b h =
      let step = and_then_ok (matching site condition older) (λ rows. Ok (map (λ row. Remove row.key) rows)) all h in
      subst (Each (OfPut After)) (ok_same (map (λ (row : Kept). Remove row.key) step.0) all step.2) (all_removed step.0)
  changes_made job.Fill older all m b h = all_put (every (map (filled_row site) older)) all (λ new e. every_made (filled_row site) Before After m older new b e) h
