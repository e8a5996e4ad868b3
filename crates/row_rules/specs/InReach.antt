-- That a statement looks at no row but those of its reach: of a row of another key its WHERE is false, and never a fault.
use Rattle.std.specs.Prelude.{◌≡◌, ℕ, ℤ, true, List, slice_index_or, Option, Some, None}
use Rattle.std.specs.List.{AllByRecursion}
use Rattle.sql_base.specs.Fit.{row_fits}
use Rattle.mig_lens.specs.Lens.{carries}
use Rattle.row_rules.specs.Changes.{changes, matching}
use Rattle.row_rules.specs.Rows.{Ascends}
use Rattle.row_rules.specs.Reach.{reach, row_alone, row_of, rows_reached}
use Rattle.row_rules.specs.Show.{rows_shown}
use Rattle.row_rules.specs.Site.{Beside, Site, key_of, shape_of, shown}
use Rattle.row_rules.specs.Words.{Expr, Int, Items, Kept, New, Null, Old, Side, Table, Value}
use Rattle.row_rules.specs.Words.job

-- ---- rows that show their keys

-- What the row shows has the row's key in the key's place.
abbrev pub ShowsKey : Site → Kept → Type 0
ShowsKey site row = slice_index_or (shown site row.halves) (shape_of site.here).key Null ≡ Int row.key

abbrev pub ShowKeys : Site → List Kept → Type 0
ShowKeys site rows = AllByRecursion (ShowsKey site) rows

-- The half fits the table's shape, and has this key in the key's place.
pub record IsHalf (table : Table) (key : ℤ) (values : List Value) : Type 0 where
  pub fits : row_fits (shape_of table) values ≡ true
  pub has_key : key_of (shape_of table) values ≡ key

-- There is such a half.
abbrev pub HasHalf : Table → ℤ → Option (List Value) → Type 0
HasHalf table key None = ⊥
HasHalf table key (Some values) = IsHalf table key values

-- A row without its new half has such an old half, and the new version's key carries the old one's.
pub record IsUnfilled (here : Table) (beside : Beside) (key : ℤ) (old : Option (List Value)) : Type 0 where
  pub half : HasHalf beside.table key old
  pub carried : carries beside.lens.new_cols (shape_of here).key (shape_of beside.table).key ≡ true

abbrev pub UnfilledStands : Table → Option Beside → ℤ → Option (List Value) → Type 0
UnfilledStands here None key old = ⊥
UnfilledStands here (Some beside) key old = IsUnfilled here beside key old

-- What the new version shows of a row: its new half, or of its old half where the new one is missing.
abbrev pub NewStands : Table → Option Beside → ℤ → Option (List Value) → Option (List Value) → Type 0
NewStands here there key old None = UnfilledStands here there key old
NewStands here there key old (Some values) = IsHalf here key values

abbrev pub SideStands : Side → Table → Option Beside → Kept → Type 0
SideStands Old here there row = HasHalf here row.key row.halves.old
SideStands New here there row = NewStands here there row.key row.halves.old row.halves.new

-- The half that the row shows, or that it makes what it shows of, stands so.
abbrev pub ShownStands : Site → Kept → Type 0
ShownStands site row = SideStands site.side site.here site.there row

-- Such rows show their keys.
abbrev pub StandingShowKeys : Type 0
StandingShowKeys = (site : Site) (rows : List Kept) → AllByRecursion (ShownStands site) rows → ShowKeys site rows

-- ---- nothing more is looked at

-- The rows that this WHERE reaches.
abbrev pub within : Site → Option Expr → List Kept → List Kept
within site condition rows = rows_reached (reach (shape_of site.here) condition) rows

-- The rows that pass, or the first fault, are the same over the rows reached alone.
abbrev pub MatchesWithin : Type 0
MatchesWithin = (site : Site) (condition : Option Expr) (rows : List Kept) → ShowKeys site rows →
    matching site condition rows ≡ matching site condition (within site condition rows)

-- So are the changes of an UPDATE,
abbrev pub AltersWithin : Type 0
AltersWithin = (site : Site) (sets : List (ℕ × Expr)) (condition : Option Expr) (rows : List Kept) → ShowKeys site rows →
    changes site (job.Alter sets condition) rows ≡ changes site (job.Alter sets condition) (within site condition rows)

-- those of a DELETE,
abbrev pub RemovesWithin : Type 0
RemovesWithin = (site : Site) (condition : Option Expr) (rows : List Kept) → ShowKeys site rows →
    changes site (job.Remove condition) rows ≡ changes site (job.Remove condition) (within site condition rows)

-- and what a SELECT shows, whatever number of rows it may show.
abbrev pub ShowsWithin : Type 0
ShowsWithin = (site : Site) (items : Items) (condition : Option Expr) (room : ℕ) (rows : List Kept) → ShowKeys site rows →
    rows_shown site items condition room rows ≡ rows_shown site items condition room (within site condition rows)

-- ---- the one row

-- Of rows whose keys ascend the key reaches one row or none.
abbrev pub ReachesOne : Type 0
ReachesOne = (key : ℤ) (rows : List Kept) → Ascends rows → rows_reached (Some key) rows ≡ row_alone (row_of key rows)
