-- The changes of a job to rows of a site that stands: each row that is put stands.
use Rattle.std.proofs.Common.{◌≡◌, ◌∙◌, zero-add, ℕ, ◌+◌, ℤ, List, [], true, false, ◌==◌, Option, Some, None, Ok, ap, subst, map, unwrap_or, slice_get, slice_index_or}
use Rattle.std.specs.List.{AllByRecursion as Each}
use Rattle.std.specs.Map.{lookup}
use Rattle.sql_base.specs.Fit.{fits_columns, is_integer, row_fits}
use Rattle.sql_base.specs.Laws.{all_true, and_then_ok, both, ok_same}
use Rattle.sql_base.specs.Outcome.{every}
use Rattle.sql_base.specs.declared.values.Value.{Value}
use Rattle.sql_base.specs.declared.values.Value.TheVariants.{Null}
use Rattle.sql_eval.specs.Eval.{eval}
use Rattle.sql_eval.specs.Laws.{TypedIsSound}
use Rattle.row_rules.specs.Causes.{value_cause}
use Rattle.row_rules.specs.Changes.{altered, altered_halves, altered_row, assigned, changes, new_row, remade, with_given}
use Rattle.row_rules.specs.Outcome.{map_fault}
use Rattle.row_rules.specs.Site.{Site, half, key_of, other, shape_of, touched}
use Rattle.machine.specs.Sites.{ChangeStands, JobStands, SetStands, SiteRow, SiteStands}
use Rattle.machine.specs.Standing.{HalfStands}
use Rattle.machine.specs.Words.{Change, Expr, Halves, Job, Kept, Shape}
use Rattle.machine.specs.Words.job
use Rattle.machine.proofs.Accepting.{map_fault_ok}
use Rattle.machine.specs.Below.{Below}
use Rattle.machine.proofs.GivenValues.{Suits, evaluated_suits, given_fits, given_stays, lookup_none, suit_from}
use Rattle.row_rules.specs.Made.{Makes, changes_made, every_made}
use Rattle.machine.proofs.Moving.{each_so}
use Rattle.machine.proofs.SiteHalves.{Touched, filled_row_stands, new_row_stands, remade_stands, same_key, touched_stands}

-- ---- assignments

-- A value that is given suits its column, which isn't the key.
abbrev GivenStands : Shape → ℕ × Value → Type 0
GivenStands shape at = ((at.0 == shape.key) ≡ false) × Suits (slice_get shape.columns at.0) at.1

assigned_stands : TypedIsSound → (shape : Shape) (row : List Value) → fits_columns shape.columns row ≡ true → (set : ℕ × Expr) (at : ℕ × Value) → SetStands shape set → assigned shape row set ≡ Ok at → GivenStands shape at
assigned_stands typed shape row fit set at s h =
    let step = and_then_ok (eval shape row set.1) (λ value. Ok (set.0, value)) at h in
    subst (GivenStands shape) (ok_same (set.0, step.0) at step.2) (s.0, evaluated_suits typed shape shape row set step.0 fit s.1 step.1)

-- A row with its assignments fits as it did, and has the key that it had.
altered_fits : TypedIsSound → (shape : Shape) (sets : List (ℕ × Expr)) (row values : List Value) → Each (SetStands shape) sets → row_fits shape row ≡ true → altered shape sets row ≡ Ok values → (row_fits shape values ≡ true) × (key_of shape values ≡ key_of shape row)
altered_fits typed shape sets row values s fit h =
    let parts = both (fits_columns shape.columns row) (is_integer (slice_index_or row shape.key Null)) fit in
    let step = and_then_ok (every (map (assigned shape row) sets)) (λ given. Ok (with_given given row)) values h in
    let given = step.0 in
    let stand = every_made (assigned shape row) (SetStands shape) (GivenStands shape) (assigned_stands typed shape row parts.0) sets given s step.1 in
    let suit = each_so (GivenStands shape) (λ at. Suits (slice_get shape.columns at.0) at.1) (λ at g. g.1) given stand in
    let elsewhere = each_so (GivenStands shape) (λ at. (at.0 == shape.key) ≡ false) (λ at g. g.0) given stand in
    let columns = given_fits given 0 shape.columns row (suit_from shape.columns given suit) parts.0 in
    let none : lookup (λ place. place == 0 + shape.key) given ≡ None = ap (λ n. lookup (λ place. place == n) given) (zero-add shape.key) ∙ lookup_none shape.key given elsewhere in
    let stays = given_stays given 0 shape.key row none in
    let made = with_given given row in
    subst (λ vs. (row_fits shape vs ≡ true) × (key_of shape vs ≡ key_of shape row)) (ok_same made values step.2)
    (all_true (fits_columns shape.columns made) (is_integer (slice_index_or made shape.key Null)) columns (ap is_integer stays ∙ parts.1), same_key shape made shape row stays)

-- ---- the rows of a job

module _ (Lost : ℕ → Type 0) (below : Below) (site : Site) (stands : SiteStands site) where
  half_there : (key : ℤ) (half : Option (List Value)) → HalfStands (Some site.here) key half → HalfStands (Some site.here) key (Some (unwrap_or half []))
  half_there key None h = absurd h
  half_there key (Some values) h = h

  altered_halves_stand : (sets : List (ℕ × Expr)) (row : Kept) (halves : Halves) (made : Kept) → Each (SetStands (shape_of site.here)) sets → Lost row.lost → Touched Lost site row.key halves → altered_halves site sets row halves ≡ Ok made → SiteRow Lost site made
  altered_halves_stand sets row halves made s l t h =
      let shape = shape_of site.here in
      let before = unwrap_or (half site.side halves) [] in
      let here = half_there row.key (half site.side halves) t.here in
      let step = and_then_ok (map_fault (value_cause row.key) (altered shape sets before)) (λ values. remade site row.key row.lost (half (other site.side) halves) values) made h in
      let fit = altered_fits below.typed shape sets before step.0 s here.0 (map_fault_ok (value_cause row.key) (altered shape sets before) step.0 step.1) in
      remade_stands Lost below site stands row.key row.lost (half (other site.side) halves) step.0 made fit.0 (fit.1 ∙ here.1) t.there l step.2

  altered_row_stands : (sets : List (ℕ × Expr)) → Each (SetStands (shape_of site.here)) sets → (row made : Kept) → SiteRow Lost site row → altered_row site sets row ≡ Ok made → SiteRow Lost site made
  altered_row_stands sets s row made r h =
      let step = and_then_ok (map_fault (value_cause row.key) (touched site row.halves)) (altered_halves site sets row) made h in
      let begun = touched_stands Lost below site stands row step.0 r (map_fault_ok (value_cause row.key) (touched site row.halves) step.0 step.1) in
      altered_halves_stand sets row step.0 made s r.lost begun step.2

  makes : (what : Job) → JobStands (shape_of site.here) what → Lost site.lost → Makes (SiteRow Lost site) (SiteRow Lost site) site what
  makes (job.Put rows) j l = each_so (λ values. row_fits (shape_of site.here) values ≡ true) (λ values. (row : Kept) → new_row site values ≡ Ok row → SiteRow Lost site row) (λ values fit row. new_row_stands Lost below site stands l values row fit) rows j
  makes (job.Alter sets condition) j l = altered_row_stands sets j
  makes (job.Remove condition) j l = tt
  makes job.Fill j l = filled_row_stands Lost below site stands

  pub changes_stand : (what : Job) (older : List Kept) (all : List Change) → JobStands (shape_of site.here) what → Lost site.lost → Each (SiteRow Lost site) older → changes site what older ≡ Ok all → Each (ChangeStands Lost site) all
  changes_stand what older all j l r h = changes_made (SiteRow Lost site) (SiteRow Lost site) site what older all (makes what j l) r h
