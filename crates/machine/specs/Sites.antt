-- What holds of a table as a statement meets it, and of its rows, in a state that stands.
use Rattle.std.specs.Prelude.{◌≡◌, ℕ, ◌==◌, List, Bool, true, false, slice_index_or, Option, Some, None}
use Rattle.std.specs.List.{AllByRecursion}
use Rattle.std.specs.Option.{option_map, option_map_or}
use Rattle.sql_base.specs.Fit.{row_fits}
use Rattle.sql_eval.specs.Shape.{WellFormed}
use Rattle.mig_lens.specs.Layout.{has_mark}
use Rattle.mig_lens.specs.Lens.{IsWellFormed, carries, fits}
use Rattle.row_rules.specs.Settle.{value_error}
use Rattle.row_rules.specs.Site.{Beside, Site, number_of, shape_of}
pub use Rattle.row_rules.specs.Made.{OfPut}
use Rattle.machine.specs.State.{Found, Shared, table_on}
use Rattle.machine.specs.Standing.{HalfStands, NewStands}
use Rattle.machine.specs.Words.{Change, Expr, Halves, Job, Kept, Lens, New, Null, Old, Shape, Side, State, Table, Value}
use Rattle.machine.specs.Words.job

-- ---- the site

-- The lens fits the two shapes and is well formed over them.
pub record JoinsShapes (lens : Lens) (old new : Shape) : Type 0 where
  pub fitting : fits lens old new ≡ true
  pub well_formed : IsWellFormed lens old new

-- The lens joins the table of this side and the other version's.
abbrev pub JoinsBeside : Side → Table → Beside → Type 0
JoinsBeside Old here beside = JoinsShapes beside.lens (shape_of here) (shape_of beside.table)
JoinsBeside New here beside = JoinsShapes beside.lens (shape_of beside.table) (shape_of here)

abbrev pub BesideStands : Side → Table → Option Beside → Type 0
BesideStands side here None = Unit {0}
BesideStands side here (Some beside) = JoinsBeside side here beside

-- The shape is well formed, and the lens, where there is one, joins the two shapes.
pub record SiteStands (site : Site) : Type 0 where
  pub well_formed : WellFormed (shape_of site.here)
  pub beside : BesideStands site.side site.here site.there

-- ---- its state

-- The table is its side's table of its number, and its shape is well formed.
pub record TableStands (s : State) (found : Found) : Type 0 where
  pub on_side : table_on s found.side (number_of found.table) ≡ Some found.table
  pub well_formed : WellFormed (shape_of found.table)

-- Both versions have the table of this number, and the lens joins the two shapes.
pub record PairStands (s : State) (number : ℕ) (pair : Shared) : Type 0 where
  pub old : table_on s Old number ≡ Some pair.old
  pub new : table_on s New number ≡ Some pair.new
  pub fitting : fits pair.lens (shape_of pair.old) (shape_of pair.new) ≡ true
  pub well_formed : IsWellFormed pair.lens (shape_of pair.old) (shape_of pair.new)

-- ---- its rows

abbrev pub table_by : Side → Table → Option Beside → Option Table
table_by Old here there = Some here
table_by New here there = option_map (λ beside. beside.table) there

-- What the old version has of the table.
abbrev pub old_table : Site → Option Table
old_table site = table_by site.side site.here site.there

abbrev pub new_table_by : Side → Table → Option Beside → Option Table
new_table_by Old here there = option_map (λ beside. beside.table) there
new_table_by New here there = Some here

-- What the new version has of it.
abbrev pub new_table : Site → Option Table
new_table site = new_table_by site.side site.here site.there

-- Whether a new half may be missing: where a new column has to be made.
abbrev pub may_miss_beside : Option Beside → Bool
may_miss_beside there = option_map_or (λ beside. has_mark beside.lens) there false

-- The row has its halves, which fit the shapes and have the row's key; and of its lost weight this holds.
pub record SiteRow (Lost : ℕ → Type 0) (site : Site) (row : Kept) : Type 0 where
  pub old : HalfStands (old_table site) row.key row.halves.old
  pub new : NewStands (may_miss_beside site.there) (new_table site) row.key row.halves.new
  pub lost : Lost row.lost

-- ---- what is done to them

-- The column isn't the key, and the expression is typed for it.
abbrev pub SetStands : Shape → ℕ × Expr → Type 0
SetStands shape set = ((set.0 == shape.key) ≡ false) × (value_error shape shape set ≡ None)

-- A job whose names and types are settled: rows that are put fit the shape, and the key isn't assigned.
abbrev pub JobStands : Shape → Job → Type 0
JobStands shape (job.Put rows) = AllByRecursion (λ values. row_fits shape values ≡ true) rows
JobStands shape (job.Alter sets condition) = AllByRecursion (SetStands shape) sets
JobStands shape (job.Remove condition) = Unit {0}
JobStands shape job.Fill = Unit {0}

-- A row that is put stands.
abbrev pub ChangeStands : (ℕ → Type 0) → Site → Change → Type 0
ChangeStands Lost site change = OfPut (SiteRow Lost site) change

-- ---- what two halves have in common

-- A column that is carried has one value in both halves.
abbrev pub HalvesAgree : Lens → Halves → Type 0
HalvesAgree lens halves = (old new : List Value) (i j : ℕ) → halves.old ≡ Some old → halves.new ≡ Some new → carries lens.new_cols i j ≡ true → slice_index_or new i Null ≡ slice_index_or old j Null

-- So it is in a row that is put.
abbrev pub ChangeAgrees : Lens → Change → Type 0
ChangeAgrees lens change = OfPut (λ row. HalvesAgree lens row.halves) change
