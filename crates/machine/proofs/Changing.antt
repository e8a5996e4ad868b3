-- The changes of a statement or of a batch lead from a state that stands to one.
use Rattle.std.proofs.Common.{◌≡◌, ℕ, ◌≤◌, List, [], ◌∷◌, false, ◌==◌, Ok, ap, length, find}
use Rattle.std.specs.List.{AllByRecursion as Each}
use Rattle.std.specs.Option.{option_map_or}
use Rattle.row_rules.specs.Changes.{after_changes, changes}
use Rattle.row_rules.specs.Site.{number_of, shape_of}
use Rattle.machine.specs.Sites.{JobStands, SiteRow, TableStands}
use Rattle.machine.specs.Standing.{IsState, NoneLost, RowStands, RowsStand, may_lose}
use Rattle.machine.specs.State.{Found, lost_columns_of, row_count, rows_of, site_of, with_rows}
use Rattle.machine.specs.Statement.{max_rows}
use Rattle.machine.specs.Words.{Change, Job, Kept, State}
use Rattle.machine.specs.Below.{Below}
use Rattle.machine.proofs.FoundSites.{row_off_site, row_on_site, site_stands}
use Rattle.machine.proofs.Moving.{each_both, each_so}
use Rattle.machine.proofs.Placing.{changed_each}
use Rattle.machine.proofs.Replacing.{each_row, refilled_stands, replaced_stands, rows_each, rows_so, rows_stand}
use Rattle.machine.proofs.SiteChanges.{changes_stand}

-- Nothing is lost, where nothing may be.
abbrev pub LostIn : State → ℕ → Type 0
LostIn s weight = may_lose s.kind s.left ≡ false → weight ≡ 0

none_lost_row : (s : State) (number : ℕ) → IsState s → may_lose s.kind s.left ≡ false → NoneLost (rows_of s number)
none_lost_row s number stands none = rows_so (λ number rows. NoneLost rows) number tt s.tables (stands.lost none).rows

-- A new row has lost nothing then.
new_lost : (s : State) (number : ℕ) → IsState s → LostIn s (lost_columns_of s number)
new_lost s number stands none = ap (λ (columns : List (ℕ × ℕ)). option_map_or (λ lost. lost.1) (find (λ lost. lost.0 == number) columns) 0) (stands.lost none).columns

lost_in_each : (s : State) (rows : List Kept) → (may_lose s.kind s.left ≡ false → NoneLost rows) → Each (λ row. LostIn s row.lost) rows
lost_in_each s [] h = tt
lost_in_each s (row ∷ rows) h = (λ none. (h none).0, lost_in_each s rows (λ none. (h none).1))

none_lost_each : (s : State) (rows : List Kept) → Each (λ row. LostIn s row.lost) rows → may_lose s.kind s.left ≡ false → NoneLost rows
none_lost_each s [] h none = tt
none_lost_each s (row ∷ rows) h none = (h.0 none, none_lost_each s rows h.1 none)

module _ (below : Below) (s : State) (stands : IsState s) (found : Found) (f : TableStands s found) where
  -- The rows of the table stand on its site.
  pub rows_on_site : Each (SiteRow (LostIn s) (site_of s found)) (rows_of s (number_of found.table))
  rows_on_site =
      let number = number_of found.table in
      let rows = rows_of s number in
      each_both (RowStands s number) (λ row. LostIn s row.lost) (SiteRow (LostIn s) (site_of s found)) (row_on_site s stands (LostIn s) found f) rows
      (rows_each s number rows (rows_stand s number stands).1) (lost_in_each s rows (none_lost_row s number stands))

  -- Rows of the site that are put leave rows that stand.
  pub changed_rows : (what : Job) (some : List Kept) (all : List Change) → JobStands (shape_of found.table) what → Each (SiteRow (LostIn s) (site_of s found)) some → changes (site_of s found) what some ≡ Ok all
      → Each (SiteRow (LostIn s) (site_of s found)) (after_changes all (rows_of s (number_of found.table)))
  changed_rows what some all j each_stands h =
      let site = site_of s found in
      let put = changes_stand (LostIn s) below site (site_stands s stands found f) what some all j (new_lost s (number_of found.table) stands) each_stands h in
      changed_each (SiteRow (LostIn s) site) all (rows_of s (number_of found.table)) put rows_on_site

  rows_off_site : (rows : List Kept) → Each (SiteRow (LostIn s) (site_of s found)) rows → RowsStand s (number_of found.table) rows × (may_lose s.kind s.left ≡ false → NoneLost rows)
  rows_off_site rows h =
      let site = site_of s found in (
        each_row s (number_of found.table) rows (each_so (SiteRow (LostIn s) site) (RowStands s (number_of found.table)) (row_off_site s stands (LostIn s) found f) rows h),
        none_lost_each s rows (each_so (SiteRow (LostIn s) site) (λ row. LostIn s row.lost) (λ row r. r.lost) rows h),
      )

  pub changed_stands : (what : Job) (some : List Kept) (all : List Change) → JobStands (shape_of found.table) what → Each (SiteRow (LostIn s) (site_of s found)) some → changes (site_of s found) what some ≡ Ok all
      → row_count (with_rows s (number_of found.table) (after_changes all (rows_of s (number_of found.table)))) ≤ max_rows → IsState (with_rows s (number_of found.table) (after_changes all (rows_of s (number_of found.table))))
  changed_stands what some all j each_stands h few =
      let number = number_of found.table in
      let rows = rows_of s number in
      let after = rows_off_site (after_changes all rows) (changed_rows what some all j each_stands h) in
      replaced_stands s number (after_changes all rows) stands (below.order all rows (rows_stand s number stands).0) after.0 after.1 few

  pub refilled_so : (what : Job) (some : List Kept) (all : List Change) → JobStands (shape_of found.table) what → Each (SiteRow (LostIn s) (site_of s found)) some → changes (site_of s found) what some ≡ Ok all
      → length (after_changes all (rows_of s (number_of found.table))) ≤ length (rows_of s (number_of found.table)) → IsState (with_rows s (number_of found.table) (after_changes all (rows_of s (number_of found.table))))
  refilled_so what some all j each_stands h few =
      let number = number_of found.table in
      let rows = rows_of s number in
      let after = rows_off_site (after_changes all rows) (changed_rows what some all j each_stands h) in
      refilled_stands s number (after_changes all rows) stands (below.order all rows (rows_stand s number stands).0) after.0 after.1 few
