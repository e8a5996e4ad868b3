-- What holds of lenses, whatever the shapes and rows are, and which schemas and fates stand.
use Rattle.std.specs.Prelude.{◌≡◌, ◌<◌, ℕ, Bool, true, false, not, ◌&&◌, ◌==◌, List, [], ◌∷◌, map, slice_index_or, is_some, Option, Some, None, Ok}
use Rattle.std.specs.List.{list_any}
use Rattle.std.specs.Option.{option_map_or}
use Rattle.sql_base.specs.declared.shapes.Schema.{Schema}
use Rattle.sql_base.specs.declared.shapes.Shape.{Shape}
use Rattle.sql_base.specs.declared.values.Value.{Value}
use Rattle.sql_base.specs.declared.values.Value.TheVariants.{Null}
use Rattle.sql_base.specs.Fit.{row_fits}
use Rattle.sql_eval.specs.Shape.{WellFormed, all_different}
use Rattle.mig_lens.specs.declared.columns.Lens.{Lens}
use Rattle.mig_lens.specs.declared.plans.Fate.{Fate}
use Rattle.mig_lens.specs.declared.plans.Fate.TheVariants.{Created, Dropped, Kept}
use Rattle.mig_lens.specs.Layout.{has_mark}
use Rattle.mig_lens.specs.Lens.{IsWellFormed, all_carry, backward, carries, fits, forward}
use Rattle.mig_lens.specs.Versions.{Table, shape_numbered, table_numbered}

-- ---- halves

-- The half before, if there was one, fits the shape.
abbrev pub FitsBefore : Shape → Option (List Value) → Type 0
FitsBefore shape previous = option_map_or (row_fits shape) previous true ≡ true

-- The key's value in a half of this shape is that in a half of the other.
abbrev pub SameKey : Shape → List Value → Shape → List Value → Type 0
SameKey shape half other other_half = slice_index_or half shape.key Null ≡ slice_index_or other_half other.key Null

-- Of an old half that fits, the new half fits too, where there is one, and has the same key.
abbrev pub ForwardFits : Type 0
ForwardFits =
    (lens : Lens) (old new : Shape) (half : List Value) (previous : Option (List Value)) (made : List Value) →
    fits lens old new ≡ true → IsWellFormed lens old new → row_fits old half ≡ true → FitsBefore new previous → forward lens old half previous ≡ Ok made →
    (row_fits new made ≡ true) × SameKey new made old half

-- The same from the new half to the old one.
abbrev pub BackwardFits : Type 0
BackwardFits =
    (lens : Lens) (old new : Shape) (half : List Value) (previous : Option (List Value)) (made : List Value) →
    fits lens old new ≡ true → IsWellFormed lens old new → row_fits new half ≡ true → FitsBefore old previous → backward lens new half previous ≡ Ok made →
    (row_fits old made ≡ true) × SameKey old made new half

-- Where every old column is carried, the old half made from a new half that was made from an old half is that old half.
abbrev pub BackwardOfForward : Type 0
BackwardOfForward =
    (lens : Lens) (old new : Shape) (half : List Value) (previous before : Option (List Value)) (made : List Value) →
    fits lens old new ≡ true → IsWellFormed lens old new → all_carry lens.old_cols ≡ true → row_fits old half ≡ true → forward lens old half previous ≡ Ok made →
    backward lens new made before ≡ Ok half

-- A new column that carries an old one has its value.
abbrev pub ForwardCarries : Type 0
ForwardCarries =
    (lens : Lens) (old : Shape) (half : List Value) (previous : Option (List Value)) (made : List Value) (i j : ℕ) →
    forward lens old half previous ≡ Ok made → carries lens.new_cols i j ≡ true → slice_index_or made i Null ≡ slice_index_or half j Null

-- The same of an old column that carries a new one.
abbrev pub BackwardCarries : Type 0
BackwardCarries =
    (lens : Lens) (new : Shape) (half : List Value) (previous : Option (List Value)) (made : List Value) (j i : ℕ) →
    backward lens new half previous ≡ Ok made → carries lens.old_cols j i ≡ true → slice_index_or made j Null ≡ slice_index_or half i Null

-- Where no new column is made by an expression there is a new half of every old half.
abbrev pub UnmadeNeverFaults : Type 0
UnmadeNeverFaults =
    (lens : Lens) (old : Shape) (half : List Value) (previous : Option (List Value)) → has_mark lens ≡ false →
    (made : List Value) × (forward lens old half previous ≡ Ok made)

-- ---- versions

abbrev pub numbers_differ : List ℕ → Bool
numbers_differ [] = true
numbers_differ (number ∷ numbers) = not (list_any (λ other. other == number) numbers) && numbers_differ numbers

-- A schema's tables have different names, different numbers and well-formed shapes.
pub record IsSchema (schema : Schema) : Type 0 where
  pub names : all_different (map (λ table. table.0) schema.tables) ≡ true
  pub numbers : numbers_differ (map (λ table. table.1) schema.tables) ≡ true
  pub shapes : (number : ℕ) (shape : Shape) → shape_numbered schema number ≡ Some shape → WellFormed shape

-- The table of this number has a shape in both schemas, and the lens fits the two and is well formed over them.
pub record Joins (lens : Lens) (number : ℕ) (old new : Schema) : Type 0 where
  pub before : Shape
  pub after : Shape
  pub in_old : shape_numbered old number ≡ Some before
  pub in_new : shape_numbered new number ≡ Some after
  pub fitting : fits lens before after ≡ true
  pub well_formed : IsWellFormed lens before after

-- The numbers of these tables are below that of the next one.
abbrev pub AllBelow : ℕ → List Table → Type 0
AllBelow next [] = Unit {0}
AllBelow next (table ∷ tables) = (table.1 < next) × AllBelow next tables

-- The number of the next table is above those of a schema's.
abbrev pub IsBelow : ℕ → Schema → Type 0
IsBelow next schema = AllBelow next schema.tables

-- The tables that the fate is about: it is kept in both versions, or one of the two alone has it.
abbrev pub FateStands : ℕ → Schema → Schema → Fate → Type 0
FateStands number old new (Kept lens) = Joins lens number old new
FateStands number old new Created =
    (table_numbered old number ≡ None) × (is_some (table_numbered new number) ≡ true)
FateStands number old new Dropped =
    (is_some (table_numbered old number) ≡ true) × (table_numbered new number ≡ None)
