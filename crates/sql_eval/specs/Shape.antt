-- Shapes that are well formed. All of it is our own.
use Rattle.std.specs.Prelude.{◌≡◌, ◌≤◌, ℕ, nat_lt, Bool, true, false, not, ◌&&◌, List, [], ◌∷◌, map, length, slice_get, Option, Some, None, Ok, Err}
use Rattle.std.specs.List.{list_all, list_any}
use Rattle.std.specs.Str.{bytes_eq}
use Rattle.sql_base.specs.declared.values.Ty.TheVariants as ty
use Rattle.sql_base.specs.declared.shapes.Column.{Column}
use Rattle.sql_base.specs.declared.shapes.Unique.{Unique}
use Rattle.sql_base.specs.declared.shapes.Shape.{Shape}
use Rattle.sql_base.specs.Fit.{has_type}
use Rattle.sql_eval.specs.Typing.{Typed, fits, same, type_of}

abbrev pub max_columns : ℕ
max_columns = 32

abbrev pub all_different : List (List ℕ) → Bool
all_different [] = true
all_different (name ∷ names) = not (list_any (bytes_eq name) names) && all_different names

-- a bigint column that isn't nullable
abbrev pub is_key : Option Column → Bool
is_key None = false
is_key (Some c) = same c.ty ty.Bigint && not c.nullable

abbrev pub has_places : ℕ → Unique → Bool
has_places count unique = list_all (λ at. nat_lt at count) unique.columns

-- boolean, or the type of NULL
abbrev pub is_condition : Typed → Bool
is_condition (Ok t) = fits ty.Boolean t
is_condition (Err f) = false

pub record WellFormed (shape : Shape) : Type 0 where
  pub few : length shape.columns ≤ max_columns
  pub different : all_different (map (λ c. c.name) shape.columns) ≡ true
  pub key : is_key (slice_get shape.columns shape.key) ≡ true
  pub uniques : list_all (has_places (length shape.columns)) shape.uniques ≡ true
  pub defaults : list_all (λ c. has_type (Some c.ty) c.default) shape.columns ≡ true
  pub checks : list_all (λ check. is_condition (type_of shape check.expr)) shape.checks ≡ true
