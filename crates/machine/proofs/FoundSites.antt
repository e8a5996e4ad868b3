-- The site of a table that was found in a state that stands.
use Rattle.std.proofs.Common.{◌≡◌, ◌∙◌, ℕ, Option, Some, None, ap, refl, sym, subst}
use Rattle.std.specs.Option.{option_map}
use Rattle.sql_base.specs.Laws.{some_same}
use Rattle.row_rules.specs.Site.{Beside, number_of}
use Rattle.machine.specs.Sites.{BesideStands, SiteRow, SiteStands, TableStands, may_miss_beside, new_table_by, table_by}
use Rattle.machine.specs.Standing.{HalfStands, IsState, NewStands, RowStands, may_miss}
use Rattle.machine.specs.State.{Found, Shared, beside_on, shared, site_of, table_on}
use Rattle.machine.specs.Words.{Kept, New, Old, Side, State, Table}
use Rattle.machine.proofs.Pairs.{new_alone, old_alone, pair_stands}

-- The site has the two versions' tables.
pub record Sides (s : State) (number : ℕ) (side : Side) (here : Table) (there : Option Beside) : Type 0 where
  pub old : table_by side here there ≡ table_on s Old number
  pub new : new_table_by side here there ≡ table_on s New number
  pub may : may_miss_beside there ≡ may_miss (shared s number)
  pub beside : BesideStands side here there

module _ (s : State) (stands : IsState s) where
  sides_by : (side : Side) (table : Table) → table_on s side (number_of table) ≡ Some table → (pair : Option Shared) → shared s (number_of table) ≡ pair → Sides s (number_of table) side table (option_map (beside_on side) pair)
  sides_by Old table on None is = record { old = sym on; new = sym (old_alone s (number_of table) table stands is on); may = sym (ap may_miss is); beside = tt }
  sides_by New table on None is = record { old = sym (new_alone s (number_of table) table stands is on); new = sym on; may = sym (ap may_miss is); beside = tt }
  sides_by Old table on (Some pair) is =
      let p = pair_stands s (number_of table) pair stands is in
      let same : pair.old ≡ table = some_same pair.old table (sym p.old ∙ on) in
      record {
        old = sym on;
        new = sym p.new;
        may = sym (ap may_miss is);
        beside = subst (λ t. BesideStands Old t (Some (beside_on Old pair))) same (record { fitting = p.fitting; well_formed = p.well_formed });
      }
  sides_by New table on (Some pair) is =
      let p = pair_stands s (number_of table) pair stands is in
      let same : pair.new ≡ table = some_same pair.new table (sym p.new ∙ on) in
      record {
        old = sym p.old;
        new = sym on;
        may = sym (ap may_miss is);
        beside = subst (λ t. BesideStands New t (Some (beside_on New pair))) same (record { fitting = p.fitting; well_formed = p.well_formed });
      }

  pub sides : (found : Found) → TableStands s found → Sides s (number_of found.table) found.side found.table (site_of s found).there
  sides found f = sides_by found.side found.table f.on_side (shared s (number_of found.table)) refl

  pub site_stands : (found : Found) → TableStands s found → SiteStands (site_of s found)
  site_stands found f = record { well_formed = f.well_formed; beside = (sides found f).beside }

  -- A row of the table stands on its site, and the other way round.
  pub row_on_site : (Lost : ℕ → Type 0) (found : Found) → TableStands s found → (row : Kept) → RowStands s (number_of found.table) row → Lost row.lost → SiteRow Lost (site_of s found) row
  row_on_site Lost found f row r l =
      let at = sides found f in
      let there = (site_of s found).there in
      record {
        old = subst (λ table. HalfStands table row.key row.halves.old) (sym at.old) r.old;
        new = subst (λ may. NewStands may (new_table_by found.side found.table there) row.key row.halves.new) (sym at.may) (subst (λ table. NewStands (may_miss (shared s (number_of found.table))) table row.key row.halves.new) (sym at.new) r.new);
        lost = l;
      }

  pub row_off_site : (Lost : ℕ → Type 0) (found : Found) → TableStands s found → (row : Kept) → SiteRow Lost (site_of s found) row → RowStands s (number_of found.table) row
  row_off_site Lost found f row r =
      let at = sides found f in
      let there = (site_of s found).there in
      record {
        old = subst (λ table. HalfStands table row.key row.halves.old) at.old r.old;
        new = subst (λ may. NewStands may (table_on s New (number_of found.table)) row.key row.halves.new) at.may (subst (λ table. NewStands (may_miss_beside there) table row.key row.halves.new) at.new r.new);
      }
