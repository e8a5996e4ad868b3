-- What a job changes is stored so that it is meant, and what such changes leave of the tables.
use Rattle.roll_core.proofs.Words.{slice_get_within, arith, ◌≡◌, ◌∙◌, ◌<◌, ◌+◌, ℕ, zero, suc, ℤ, List, [], ◌∷◌, true, false, if◌then◌else◌, Option, Some, None, Ok, length, map, ap, refl, sym, subst}
use Rattle.roll_core.proofs.Words.{option_map, slice_get, slice_index_or, Each, nat_tests, get_or-take, some_same, Value, Null, Cell, Carry, Make, Still, is_carried_from, Table, Change, Put, Remove}
use Rattle.roll_core.proofs.Words.{Job, Kept, changes, number_of, shape_of, Calm, State, RowsOnSites, RowsStandBy, BesideStands, ChangeAgrees, ChangeStands, HalvesAgree, JobStands, OfPut, PairStands}
use Rattle.roll_core.proofs.Words.{SiteRow, SiteStands, TableStands, IsState, RowsStand, Found, Shared, beside_on, rows_of, shared, site_of, table_on, New, Old, Side, Rows, Pair, IsPair, PairsAreLong}
use Rattle.roll_core.proofs.Words.{is_marked, new_half, new_view, old_view, places, Form, Own, Paired, Left, Returned, Trimmed, FormSuits, StoredRow, kept, Below, StoredTable, OwnTable, with_rows}
use Rattle.roll_core.proofs.Words.{after_changes, meant, slice_set, changed, SameForms, RowsStored, Runs, seen, rows_meant, table_meant, is_some, every, has_key, key_cause, new_keys_cause, new_row}
use Rattle.roll_core.proofs.Words.{rows_put, Site, lost_columns_of, IsStatement, IsStoredRow, lost_columns_by}
use Rattle.roll_core.proofs.Words.finite
use Rattle.roll_core.proofs.Rows.{Stores}
use Rattle.roll_core.proofs.Fitting.{Weighs, alone_shared, form_stands, storable}
use Rattle.roll_core.proofs.Runs.{calm_none}
use Rattle.roll_core.proofs.Made.{HasNew, Placed, PutBy, SideOf, changes_placed, of_put}
use Rattle.roll_core.proofs.Tables.{each_of}
use Rattle.roll_core.proofs.Storing.{stores_row}
use Rattle.roll_core.proofs.Words.job
use Rattle.roll_core.proofs.Tables.{IsRead, all_at, all_set, each_of, rows_of-read, same_forms, with_rows-set}
use Rattle.roll_core.proofs.Rows.{all_meant, all_stored, Stores, has_key-stored}
use Rattle.roll_core.proofs.Counted.{fresh, rows_are, rows_put-all, Fresh}
use Rattle.roll_core.proofs.Fitting.{Weighs, WeighsOver, new_weighs, older_weigh}
use Rattle.roll_core.proofs.Made.{Placed, of_put}

-- ---- what two views of a stored row have in common

cell_carried : (cell : Option Cell) (at : ℕ) → is_carried_from at cell ≡ true → cell ≡ Some (Carry at)
cell_carried None at e = cc
cell_carried (Some (Carry from)) at e = let same : from ≡ at = grind (arith, nat_tests) in ap (λ n. Some (Carry n)) same
cell_carried (Some (Make up)) at e = cc
cell_carried (Some (Still x)) at e = cc

carried_at : (next : ℕ) (cells : List Cell) (row : List Value) (i j : ℕ) → slice_get cells i ≡ Some (Carry j) → slice_index_or (map (λ at. slice_index_or row at Null) (places next cells)) i Null ≡ slice_index_or row j Null
carried_at next [] row i j e = cc
carried_at next (Carry from ∷ cells) row zero j e = let same : from ≡ j = cc in ap (λ n. slice_index_or row n Null) same
carried_at next (Make up ∷ cells) row zero j e = cc
carried_at next (Still x ∷ cells) row zero j e = cc
carried_at next (Carry from ∷ cells) row (suc i) j e = carried_at next cells row i j e
carried_at next (Make up ∷ cells) row (suc i) j e = carried_at (next + 1) cells row i j e
carried_at next (Still x ∷ cells) row (suc i) j e = carried_at (next + 1) cells row i j e

pair_agrees : PairsAreLong → (pair : Pair) → IsPair pair → (row : List Value) → HalvesAgree pair.lens (record { old = Some (old_view pair row); new = new_half pair row })
pair_agrees long pair p row old new i j o n c =
    let shown = elim (is_marked pair row) as (λ b. (if b then None else Some (new_view pair row)) ≡ Some new → new_view pair row ≡ new) [ true ↦ λ e. cc | false ↦ λ e. some_same (new_view pair row) new e ] n in
    let was = some_same (old_view pair row) old o in
    let back = cell_carried (slice_get pair.lens.old_cols j) i (sym (p.lens.both_ways i j) ∙ c) in
    let inside = slice_get_within pair.lens.old_cols j (Carry i) back in
    let lengths = (long pair p).0 in
    let few : j < length pair.old.columns = omega (arith, inside, lengths) in
    ap (λ xs. slice_index_or xs i Null) (sym shown) ∙ carried_at (length pair.old.columns) pair.lens.new_cols row i j (cell_carried (slice_get pair.lens.new_cols i) j c)
    ∙ sym (get_or-take (length pair.old.columns) row j Null few) ∙ ap (λ xs. slice_index_or xs j Null) was

-- The rows that are stored agree so.
pub stored_agree : PairsAreLong → (s : State) (number : ℕ) (form : Form) → FormSuits s number form → (rows : List StoredRow) (both : Shared) → shared s number ≡ Some both → Each (λ row. HalvesAgree both.lens row.halves) (map (kept form) rows)
stored_agree long s number form suits [] both is = tt
stored_agree long s number form suits (row ∷ rows) both is = (by_form form suits, stored_agree long s number form suits rows both is)
  where
    unshared : shared s number ≡ None → ⊥
    unshared none = cc

    no_pair : s.mode ≡ Calm → ⊥
    no_pair m = unshared (alone_shared s number Old (calm_none s number m))

    by_form : (form : Form) → FormSuits s number form → HalvesAgree both.lens (kept form row).halves
    by_form (Own side) f = absurd (unshared (alone_shared s number side f))
    by_form (Left pair) f = absurd (no_pair f.calm)
    by_form (Trimmed pair) f = absurd (no_pair f.calm)
    by_form (Returned pair) f = absurd (no_pair f.calm)
    by_form (Paired pair) f =
        let same : f.both ≡ both = some_same f.both both (sym f.shares ∙ is) in
        let lens = ap (λ (p : Pair). p.lens) f.over ∙ ap (λ (b : Shared). b.lens) same in
        subst (λ lens. HalvesAgree lens (kept (Paired pair) row).halves) lens (pair_agrees long pair f.is_pair row.1)

-- ---- the site

lens_beside : (side : Side) (both : Shared) → (beside_on side both).lens ≡ both.lens
lens_beside Old both = refl
lens_beside New both = refl

joins : (side : Side) (here : Table) (both : Shared) (s : State) (number : ℕ) → PairStands s number both → table_on s side number ≡ Some here → BesideStands side here (Some (beside_on side both))
joins Old here both s number p on = subst (λ t. BesideStands Old t (Some (beside_on Old both))) (some_same both.old here (sym p.old ∙ on)) (record { fitting = p.fitting; well_formed = p.well_formed })
joins New here both s number p on = subst (λ t. BesideStands New t (Some (beside_on New both))) (some_same both.new here (sym p.new ∙ on)) (record { fitting = p.fitting; well_formed = p.well_formed })

pub site_stands : Below → (s : State) (found : Found) → IsState s → TableStands s found → SiteStands (site_of s found)
site_stands law s found is t =
    let number = number_of found.table in
    let beside = elim (shared s number) as (λ o. shared s number ≡ o → BesideStands found.side found.table (option_map (beside_on found.side) o))
    [ None ↦ λ e. tt | Some both ↦ λ e. joins found.side found.table both s number (law.shared s number both is e) t.on_side ] refl in
    record { well_formed = t.well_formed; beside = beside }

-- ---- the changes of a job

each_stores : Below → (s : State) (found : Found) → TableStands s found → ((both : Shared) → shared s (number_of found.table) ≡ Some both → PairStands s (number_of found.table) both) → (form : Form) (rows : Rows) → FormSuits s (number_of found.table) form → (all : List Change)
    → Each (ChangeStands (λ lost. Unit {0}) (site_of s found)) all → Each (OfPut (λ row. HasNew (site_of s found).there row.halves)) all → ((both : Shared) → shared s (number_of found.table) ≡ Some both → Each (ChangeAgrees both.lens) all) → Each (OfPut (λ row. Weighs form rows row.key row.lost)) all
    → Each (Stores form rows) all
each_stores law s found stands pairs form rows suits [] sites has agrees weighs = tt
each_stores law s found stands pairs form rows suits (Put row ∷ all) sites has agrees weighs =
    let before = finite.get rows row.key in
    let fits = storable s found stands pairs form before row suits sites.0 has.0 (λ both e. (agrees both e).0) weighs.0 in
    (stores_row law form before row (form_stands s (number_of found.table) form suits) fits, each_stores law s found stands pairs form rows suits all sites.1 has.1 (λ both e. (agrees both e).1) weighs.1)
each_stores law s found stands pairs form rows suits (Remove key ∷ all) sites has agrees weighs = (tt, each_stores law s found stands pairs form rows suits all sites.1 has.1 (λ both e. (agrees both e).1) weighs.1)

rows_each : RowsOnSites → (s : State) (found : Found) → IsState s → TableStands s found → (rows : List Kept) → RowsStand s (number_of found.table) rows → Each (SiteRow (λ lost. Unit {0}) (site_of s found)) rows
rows_each law s found is stands [] h = tt
rows_each law s found is stands (row ∷ rows) h = (law s found row is stands h.0, rows_each law s found is stands rows h.1)

-- The changes of a job to rows of a table in a state that stands are stored so that they are meant, where the lost weights are those of what is stored.
pub job_stores : Below → (s : State) (found : Found) → IsState s → TableStands s found → (form : Form) (rows : Rows) → FormSuits s (number_of found.table) form → (what : Job) → SideOf (site_of s found) what → JobStands (shape_of found.table) what
    → (older : List Kept) → Each (SiteRow (λ lost. Unit {0}) (site_of s found)) older → ((both : Shared) → shared s (number_of found.table) ≡ Some both → Each (λ row. HalvesAgree both.lens row.halves) older)
    → (P : ℤ → ℕ → Type 0) → PutBy P (site_of s found) what older → (all : List Change) → changes (site_of s found) what older ≡ Ok all → (Each (OfPut (Placed P (site_of s found))) all → Each (OfPut (λ row. Weighs form rows row.key row.lost)) all)
    → Each (Stores form rows) all
job_stores law s found is stands form rows suits what side job older sites agree P put all e weighs =
    let number = number_of found.table in
    let site = site_of s found in
    let pairs : (both : Shared) → shared s number ≡ Some both → PairStands s number both = λ both h. law.shared s number both is h in
    let placed = changes_placed P site what older all side put e in
    let made = law.changes s found what older all is stands job sites e in
    let agrees : (both : Shared) → shared s number ≡ Some both → Each (ChangeAgrees both.lens) all = λ both h.
    subst (λ lens. Each (ChangeAgrees lens) all) (lens_beside found.side both)
    (law.agree site (beside_on found.side both) what older all (site_stands law s found is stands) (ap (option_map (beside_on found.side)) h) (subst (λ lens. Each (λ row. HalvesAgree lens row.halves) older) (sym (lens_beside found.side both)) (agree both h)) e) in
    each_stores law s found stands pairs form rows suits all made (each_of (of_put (λ row (p : Placed P site row). p.has_new)) all placed) agrees (weighs placed)

pub stored_sites : RowsStandBy → RowsOnSites → (s : State) (found : Found) → IsState s → TableStands s found → (rows : List Kept) → rows_of s (number_of found.table) ≡ rows → Each (SiteRow (λ lost. Unit {0}) (site_of s found)) rows
stored_sites by law s found is stands rows e = rows_each law s found is stands rows (subst (RowsStand s (number_of found.table)) e (by s (number_of found.table) is).1)

-- New rows weigh what a row weighs where nothing was.
fresh_weigh : (form : Form) (rows : Rows) (site : Site) (new : List Kept) → Each (λ row. has_key row.key (map (kept form) (finite.entries rows)) ≡ false) new → Each (OfPut (Placed (λ key lost. WeighsOver form None lost) site)) (map Put new) → Each (OfPut (λ row. Weighs form rows row.key row.lost)) (map Put new)
fresh_weigh form rows site [] f p = tt
fresh_weigh form rows site (row ∷ new) f p =
    let none = elim (finite.get rows row.key) as (λ o. is_some o ≡ false → o ≡ None) [ None ↦ λ h. refl | Some values ↦ λ h. cc ] (has_key-stored form row.key rows ∙ f.0) in
    (subst (λ before. WeighsOver form before row.lost) (sym none) p.0.weighs, fresh_weigh form rows site new f.1 p.1)

pub placed_weigh : (form : Form) (rows : Rows) (site : Site) (all : List Change) → Each (OfPut (Placed (Weighs form rows) site)) all → Each (OfPut (λ row. Weighs form rows row.key row.lost)) all
placed_weigh form rows site all h = each_of (of_put (λ row (p : Placed (Weighs form rows) site row). p.weighs)) all h

-- The rows that a statement's job puts are new ones of new keys, where it puts new rows and none is refused.
pub new_fresh : (site : Site) (rows : List (List Value)) (older : List Kept) (all : List Change) → changes site (job.Put rows) older ≡ Ok all → new_keys_cause site (job.Put rows) older all ≡ None → (new : List Kept) × (map Put new ≡ all) × Fresh older new
new_fresh site rows older all e none =
    let made = rows_are (every (map (new_row site) rows)) all e in
    let puts : rows_put all ≡ made.0 = ap rows_put (sym made.2) ∙ rows_put-all made.0 in
    (made.0, made.2, fresh site.here older made.0 (ap (key_cause site.here older) (sym puts) ∙ none))

-- What a statement's job changes is stored so that it is meant.
pub statement_stores : Below → (s : State) (found : Found) → IsState s → TableStands s found → (form : Form) (rows : Rows) → FormSuits s (number_of found.table) form → lost_columns_of s (number_of found.table) ≡ lost_columns_by form → Each (λ row. IsStoredRow form row.1) (finite.entries rows)
    → rows_of s (number_of found.table) ≡ map (kept form) (finite.entries rows) → (what : Job) → IsStatement what → JobStands (shape_of found.table) what → (all : List Change)
    → changes (site_of s found) what (map (kept form) (finite.entries rows)) ≡ Ok all → new_keys_cause (site_of s found) what (map (kept form) (finite.entries rows)) all ≡ None → Each (Stores form rows) all
statement_stores law s found is stands form rows suits lost stored same (job.Put values) w j all e none =
    let site = site_of s found in
    let older = map (kept form) (finite.entries rows) in
    let f = new_fresh site values older all e none in
    job_stores law s found is stands form rows suits (job.Put values) tt j older (stored_sites law.rows law.on_site s found is stands older same) (stored_agree law.long s (number_of found.table) form suits (finite.entries rows)) (λ key lost. WeighsOver form None lost) (λ key. new_weighs form site.lost lost) all e
    (λ placed. subst (Each (OfPut (λ row. Weighs form rows row.key row.lost))) f.1 (fresh_weigh form rows site f.0 f.2.apart (subst (Each (OfPut (Placed (λ key lost. WeighsOver form None lost) site))) (sym f.1) placed)))
statement_stores law s found is stands form rows suits lost stored same (job.Alter sets condition) w j all e none =
    let older = map (kept form) (finite.entries rows) in
    job_stores law s found is stands form rows suits (job.Alter sets condition) tt j older (stored_sites law.rows law.on_site s found is stands older same) (stored_agree law.long s (number_of found.table) form suits (finite.entries rows)) (Weighs form rows) (older_weigh form rows stored) all e (placed_weigh form rows (site_of s found) all)
statement_stores law s found is stands form rows suits lost stored same (job.Remove condition) w j all e none =
    let older = map (kept form) (finite.entries rows) in
    job_stores law s found is stands form rows suits (job.Remove condition) tt j older (stored_sites law.rows law.on_site s found is stands older same) (stored_agree law.long s (number_of found.table) form suits (finite.entries rows)) (Weighs form rows) tt all e (placed_weigh form rows (site_of s found) all)
statement_stores law s found is stands form rows suits lost stored same job.Fill w j all e none = absurd w

-- What changes leave that are stored so, of the table at a place.
pub record Leaves (frame : State) (tables : List StoredTable) (at number : ℕ) (table : OwnTable) (all : List Change) : Type 0 where
  pub after : with_rows (meant frame tables) number (after_changes all (rows_of (meant frame tables) number)) ≡ meant frame (slice_set tables at (changed all table))
  pub forms : SameForms tables (slice_set tables at (changed all table))
  pub stored : Each RowsStored (slice_set tables at (changed all table))

pub leaves : Below → (frame : State) (tables : List StoredTable) (at number : ℕ) (table : OwnTable) → Runs frame tables → IsRead tables at number (seen table) → (all : List Change)
    → Each (Stores table.form table.rows.rows) all → Leaves frame tables at number table all
leaves law frame tables at number table runs read all stores =
    let older = rows_meant (seen table) in
    let numbered = ap (λ (n : ℕ). (n, rows_meant (changed all table))) read.numbered in
    let is : table_meant (changed all table) ≡ (number, after_changes all older) = numbered ∙ ap (λ (rows : List Kept). (number, rows)) (all_meant law.removed table.form table.rows.rows all table.rows.rows stores) in
    record {
      after = ap (λ rows. with_rows (meant frame tables) number (after_changes all rows)) (rows_of-read law frame tables at number (seen table) runs.stands read)
          ∙ with_rows-set frame tables at number (after_changes all older) (seen table) (changed all table) runs.stands read is;
      forms = same_forms tables at (seen table) (changed all table) read.here refl refl;
      stored = all_set RowsStored tables at (changed all table) runs.rows (all_stored law.removed table.form table.rows.rows all table.rows.rows stores (all_at RowsStored tables at (seen table) runs.rows read.here));
    }
