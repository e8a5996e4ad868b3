-- The rows that a statement looks at: they show their keys, and the row of one key is found by it.
use Rattle.roll_core.proofs.Words.{ℕ, arith, ◌≡◌, ◌∙◌, ℤ, List, [], ◌∷◌, true, false, Option, Some, None, cond, option_map, int_cmp, int_eq, map, ap, refl, sym, subst, Decides-int_eq, int_eq_equiv}
use Rattle.roll_core.proofs.Words.{eq_by_cmp, T, is_sorted, below_all, is_lt, Value, Job, Kept, Site, Beside, Table, Side, Old, New, State, BesideStands, HalfStands, NewStands, Rows, AltersWithin}
use Rattle.roll_core.proofs.Words.{Ascends, HasHalf, ReachesOne, RemovesWithin, ShowKeys, SideStands, row_alone, row_of, rows_reached, changes, number_of, shape_of, may_miss_beside, table_by}
use Rattle.roll_core.proofs.Words.{new_table_by, has_mark, site_of, Below, Form, IsSite, Runs, StoredRow, StoredTable, job_reach, kept, meant, rows_meant}
use Rattle.roll_core.proofs.Words.finite
use Rattle.roll_core.proofs.Words.job
use Rattle.row_rules.specs.InReach as reach
use Rattle.std.specs.FinMap.{find}
use Rattle.roll_core.proofs.Begun.{stands_there}
use Rattle.roll_core.proofs.Fitting.{new_stands}
use Rattle.roll_core.proofs.Jobs.{site_stands, stored_sites}
use Rattle.roll_core.proofs.Stepped.{is_less, split}
use Rattle.roll_core.proofs.Tables.{IsRead, each_of, rows_of-read}

-- ---- the row of a key

row_found : (form : Form) (key : ℤ) (rows : List StoredRow) → row_of key (map (kept form) rows) ≡ option_map (λ values. kept form (key, values)) (find int_cmp key rows)
row_found form key [] = refl
row_found form key (row ∷ rows) =
    let rest = row_of key (map (kept form) rows) in
    ap (λ b. cond b (Some (kept form row)) rest) (int_eq_equiv.symm row.0 key)
    ∙ elim (eq_by_cmp int_cmp key row.0) as (λ b. eq_by_cmp int_cmp key row.0 ≡ b → cond b (Some (kept form row)) rest ≡ option_map (λ values. kept form (key, values)) (cond b (Some row.1) (find int_cmp key rows))) [
      | true ↦ λ e. let turned : int_eq row.0 key ≡ true = int_eq_equiv.symm row.0 key ∙ e in let same : row.0 ≡ key = grind (arith, Decides-int_eq row.0 key) in ap (λ (k : ℤ). Some (kept form (k, row.1))) same
      | false ↦ λ e. row_found form key rows
    ] refl

pub keys_ascend : (form : Form) (rows : List StoredRow) → T (is_sorted int_cmp rows) → Ascends (map (kept form) rows)
keys_ascend form [] s = tt
keys_ascend form (row ∷ []) s = tt
keys_ascend form (row ∷ next ∷ rows) s =
    let parts = split (below_all int_cmp row.0 (next ∷ rows)) (is_sorted int_cmp (next ∷ rows)) s in
    let less = split (is_lt (int_cmp row.0 next.0)) (below_all int_cmp row.0 rows) parts.0 in
    (is_less (int_cmp row.0 next.0) less.0, keys_ascend form (next ∷ rows) parts.1)

-- The row that is stored under a key is all that the key reaches.
pub one_reached : ReachesOne → (form : Form) (key : ℤ) (rows : Rows) (found : Option (List Value)) → found ≡ finite.get rows key
    → row_alone (option_map (λ values. kept form (key, values)) found) ≡ rows_reached (Some key) (map (kept form) (finite.entries rows))
one_reached law form key rows found is =
    ap (λ o. row_alone (option_map (λ values. kept form (key, values)) o)) (is ∙ finite.get-entries rows key) ∙ ap row_alone (sym (row_found form key (finite.entries rows)))
    ∙ sym (law key (map (kept form) (finite.entries rows)) (keys_ascend form (finite.entries rows) (finite.entries_sorted rows)))

pub changes_within : AltersWithin → RemovesWithin → (site : Site) (what : Job) (rows : List Kept) (key : ℤ) → ShowKeys site rows → job_reach (shape_of site.here) what ≡ Some key
    → changes site what (rows_reached (Some key) rows) ≡ changes site what rows
changes_within alters removes site (job.Put values) rows key s e = refl
changes_within alters removes site (job.Alter sets condition) rows key s e = ap (λ o. changes site (job.Alter sets condition) (rows_reached o rows)) (sym e) ∙ sym (alters site sets condition rows s)
changes_within alters removes site (job.Remove condition) rows key s e = ap (λ o. changes site (job.Remove condition) (rows_reached o rows)) (sym e) ∙ sym (removes site condition rows s)
changes_within alters removes site job.Fill rows key s e = cc

-- ---- rows show their keys

half_has : (table : Table) (key : ℤ) (half : Option (List Value)) → HalfStands (Some table) key half → HasHalf table key half
half_has table key None h = absurd h
half_has table key (Some values) h = record { fits = h.0; has_key = h.1 }

new_has : (here : Table) (there : Option Beside) (key : ℤ) (old new : Option (List Value)) → BesideStands New here there → HalfStands (table_by New here there) key old
    → NewStands (may_miss_beside there) (Some here) key new → reach.NewStands here there key old new
new_has here None key old None b o n = absurd n
new_has here None key old (Some values) b o n = half_has here key (Some values) n
new_has here (Some beside) key old None b o n = record { half = half_has beside.table key old o; carried = b.well_formed.new_key }
new_has here (Some beside) key old (Some values) b o n = half_has here key (Some values) (new_stands (has_mark beside.lens) here key values n)

side_stands : (side : Side) (here : Table) (there : Option Beside) (row : Kept) → BesideStands side here there → HalfStands (table_by side here there) row.key row.halves.old
    → NewStands (may_miss_beside there) (new_table_by side here there) row.key row.halves.new → SideStands side here there row
side_stands Old here there row b o n = half_has here row.key row.halves.old o
side_stands New here there row b o n = new_has here there row.key row.halves.old row.halves.new b o n

-- The rows of the table of a site do.
pub rows_show : Below → (frame : State) (tables : List StoredTable) (at : ℕ) (table : StoredTable) (site : Site) → Runs frame tables → IsSite frame site → IsRead tables at (number_of site.here) table → ShowKeys site (rows_meant table)
rows_show law frame tables at table site runs there = subst (λ site. IsRead tables at (number_of site.here) table → ShowKeys site (rows_meant table)) (sym there.1) (λ read.
    let s = meant frame tables in
    let found = there.0 in
    let stands = stands_there frame tables found there.2 in
    let rows = stored_sites law.rows law.on_site s found runs.stands stands (rows_meant table) (rows_of-read law frame tables at (number_of found.table) table runs.stands read) in
    law.keys (site_of s found) (rows_meant table) (each_of (λ (row : Kept) r. side_stands found.side found.table (site_of s found).there row (site_stands law s found runs.stands stands).beside r.old r.new) (rows_meant table) rows))
