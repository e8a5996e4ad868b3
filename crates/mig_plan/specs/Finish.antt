-- What a draft comes to: the new version's shapes, and the lens of each table.
use Rattle.std.specs.Prelude.{ℕ, ◌+◌, Bool, true, false, List, [], ◌∷◌, is_some, length, map, take, Option, Some, None}
use Rattle.std.specs.List.{cons_option, filter_map}
use Rattle.std.specs.Option.{option_map}
use Rattle.sql_base.specs.declared.exprs.Expr.{Expr}
use Rattle.sql_base.specs.declared.shapes.Column.{Column}
use Rattle.sql_base.specs.declared.shapes.Shape.{Shape}
use Rattle.sql_base.specs.declared.shapes.Unique.{Unique}
use Rattle.mig_lens.specs.declared.columns.Cell.{Cell}
use Rattle.mig_lens.specs.declared.columns.Cell.TheVariants.{Carry, Make, Still}
use Rattle.mig_lens.specs.declared.columns.Lens.{Lens}
use Rattle.mig_plan.specs.declared.drafts.Draft.{Draft}
use Rattle.mig_plan.specs.declared.drafts.DraftColumn.{DraftColumn}
use Rattle.mig_plan.specs.declared.drafts.DraftTable.{DraftTable}
use Rattle.mig_lens.specs.declared.plans.Fate.{Fate}
use Rattle.mig_lens.specs.declared.plans.Fate.TheVariants.{Kept, Created, Dropped}
use Rattle.mig_lens.specs.declared.plans.Plan.{Plan}
use Rattle.mig_plan.specs.Versions.{Table}

-- ---- shapes

-- the column on each side, if that side has it
abbrev pub old_side : DraftColumn → Option Column
old_side column = column.before

abbrev pub new_side : DraftColumn → Option Column
new_side column = column.after.column

-- The place, among the columns of one side, of the column at this place of the draft.
abbrev pub place : (DraftColumn → Option Column) → List DraftColumn → ℕ → ℕ
place side columns at = length (filter_map side (take at columns))

abbrev pub unique_of : List DraftColumn → Unique → Unique
unique_of columns unique = record unique { columns = map (place new_side columns) unique.columns }

-- the table's shape in the new version
abbrev pub shape_of : DraftTable → Shape
shape_of table =
    record { columns = filter_map new_side table.columns; key = place new_side table.columns table.key; checks = map (λ check. check.check) table.checks; uniques = map (unique_of table.columns) table.uniques }

-- ---- lenses

-- A column's cell: what makes it, or else the other side's column at this place, if it is carried, or else its default.
abbrev pub cell_of : Option Expr → Bool → ℕ → Column → Cell
cell_of (Some expr) is_carried at own = Make expr
cell_of None true at own = Carry at
cell_of None false at own = Still own.default

abbrev pub next_place : Bool → ℕ → ℕ
next_place true at = at + 1
next_place false at = at

-- The cells of the new columns. The first of the draft's columns, if the old version has it, is there at this place.
abbrev pub new_cells : ℕ → List DraftColumn → List Cell
new_cells at [] = []
new_cells at (column ∷ columns) =
    cons_option (option_map (cell_of column.after.up (is_some column.before) at) column.after.column)
    (new_cells (next_place (is_some column.before) at) columns)

-- The cells of the old columns. The first of the draft's columns, if the new version has it, is there at this place.
abbrev pub old_cells : ℕ → List DraftColumn → List Cell
old_cells at [] = []
old_cells at (column ∷ columns) =
    cons_option (option_map (cell_of column.after.down (is_some column.after.column) at) column.before)
    (old_cells (next_place (is_some column.after.column) at) columns)

abbrev pub lens_of_columns : List DraftColumn → Lens
lens_of_columns columns = record { new_cols = new_cells 0 columns; old_cols = old_cells 0 columns }

-- ---- the plan

abbrev pub fate : Bool → Option (List ℕ) → List DraftColumn → Fate
fate false name columns = Created
fate true None columns = Dropped
fate true (Some name) columns = Kept (lens_of_columns columns)

abbrev pub fate_of : DraftTable → ℕ × Fate
fate_of table = (table.number, fate table.stood table.name table.columns)

-- the table in the new version, if that has it
abbrev pub new_table : DraftTable → Option Table
new_table table = option_map (λ name. (name, table.number, shape_of table)) table.name

abbrev pub finished : Draft → Plan
finished draft = record { schema = record { tables = filter_map new_table draft.tables }; fates = map fate_of draft.tables }
