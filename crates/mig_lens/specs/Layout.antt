-- How the rows of a table are stored while both versions stand.
--
-- That a new column's values stand beside the old ones until the migration is complete is pgroll's (its documentation,
-- How pgroll works). The layout is our own; the shadow columns and the mark are named after pgroll's.
use Rattle.std.specs.Prelude.{ℕ, Bool, true, false, List, [], ◌∷◌, ◌++◌, map, codes}
use Rattle.std.specs.List.{list_any}
use Rattle.sql_base.specs.declared.shapes.Column.{Column}
use Rattle.sql_base.specs.declared.shapes.Shape.{Shape}
use Rattle.sql_base.specs.declared.values.Ty.{Ty}
use Rattle.sql_base.specs.declared.values.Ty.TheVariants as ty
use Rattle.mig_lens.specs.declared.columns.Cell.{Cell}
use Rattle.mig_lens.specs.declared.columns.Cell.TheVariants.{Carry, Make, Still}
use Rattle.mig_lens.specs.declared.columns.Lens.{Lens}
use Rattle.mig_lens.specs.declared.plans.Layout.{Layout}

-- a place of a stored row: its name and its type
abbrev pub StoredPlace : Type 0
StoredPlace = List ℕ × Ty

abbrev pub place_of : Column → StoredPlace
place_of column = (column.name, column.ty)

abbrev pub shadow_name : List ℕ → List ℕ
shadow_name column = codes "_pgroll_new_" ++ column

-- A new column that isn't carried has a place of its own.
abbrev pub shadow_of : Column → Cell → List StoredPlace
shadow_of column (Carry at) = []
shadow_of column (Make expr) = (shadow_name column.name, column.ty) ∷ []
shadow_of column (Still value) = (shadow_name column.name, column.ty) ∷ []

-- those of the new columns, in new order
abbrev pub shadows : List Column → List Cell → List StoredPlace
shadows (column ∷ columns) (cell ∷ cells) = shadow_of column cell ++ shadows columns cells
shadows _ _ = []

abbrev pub is_make : Cell → Bool
is_make (Carry at) = false
is_make (Make expr) = true
is_make (Still value) = false

-- whether a new column is made by an expression, so that a new half can be missing
abbrev pub has_mark : Lens → Bool
has_mark lens = list_any is_make lens.new_cols

abbrev pub mark_place : Bool → List StoredPlace
mark_place true = (codes "_pgroll_needs_backfill", ty.Boolean) ∷ []
mark_place false = []

-- The old columns in old order under their own names, then the new ones that aren't carried, and the mark last.
abbrev pub layout : Shape → Shape → Lens → Layout
layout old new lens = record { columns = map place_of old.columns ++ shadows new.columns lens.new_cols ++ mark_place (has_mark lens); mark = has_mark lens }
