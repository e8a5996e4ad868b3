-- Rows that fit a shape.
use Rattle.std.specs.Prelude.{Bool, true, false, ◌&&◌, List, [], ◌∷◌, slice_index_or, Option, Some}
use Rattle.sql_base.specs.declared.values.Value.{Value}
use Rattle.sql_base.specs.declared.values.Value.TheVariants.{Null, Int, Text, Bool as Truth}
use Rattle.sql_base.specs.declared.values.Ty.{Ty}
use Rattle.sql_base.specs.declared.values.Ty.TheVariants as ty
use Rattle.sql_base.specs.declared.shapes.Column.{Column}
use Rattle.sql_base.specs.declared.shapes.Shape.{Shape}

-- NULL has every type.
abbrev pub has_type : Option Ty → Value → Bool
has_type t Null = true
has_type (Some ty.Bigint) (Int n) = true
has_type (Some ty.Text) (Text s) = true
has_type (Some ty.Boolean) (Truth b) = true
has_type _ _ = false

-- ---- rows that fit

-- as many values as columns, each NULL or of its column's type
abbrev pub fits_columns : List Column → List Value → Bool
fits_columns [] [] = true
fits_columns (c ∷ cs) (v ∷ vs) = has_type (Some c.ty) v && fits_columns cs vs
fits_columns _ _ = false

abbrev pub is_integer : Value → Bool
is_integer Null = false
is_integer (Int n) = true
is_integer (Text t) = false
is_integer (Truth b) = false

-- and an integer in the key's place
abbrev pub row_fits : Shape → List Value → Bool
row_fits shape row = fits_columns shape.columns row && is_integer (slice_index_or row shape.key Null)
