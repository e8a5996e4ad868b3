-- A view of a table that both of a migration's versions have names each column of its version.
use Rattle.std.proofs.Common.{◌≡◌, ◌∙◌, ℕ, List, Option, Some, None, ap, length, map, sym}
use Rattle.std.specs.Prelude.{◌==◌, find}
use Rattle.std.specs.Option.{option_and_then, option_map, option_map_or}
use Rattle.std.specs.List.{enumerate_from}
use Rattle.std.proofs.lemmas.List.{length-map}
use Rattle.std.proofs.lemmas.List.FromFn.{length-enumerate_from}
use Rattle.std.proofs.lemmas.Slice.Zip.{firsts-zip, seconds-zip}
use Rattle.sql_base.specs.declared.shapes.Schema.{Schema}
use Rattle.sql_base.specs.declared.shapes.Shape.{Shape}
use Rattle.mig_lens.specs.declared.columns.Lens.{Lens}
use Rattle.mig_lens.specs.declared.columns.Side.{Side}
use Rattle.mig_lens.specs.declared.columns.Side.TheVariants.{Old, New}
use Rattle.mig_lens.specs.declared.plans.Fate.{Fate}
use Rattle.mig_lens.specs.Plan.{Table, shape_numbered}
use Rattle.trigger_pair.specs.declared.pairs.Pair.{Pair}
use Rattle.trigger_pair.specs.Laws.{IsPair, PairsAreLong}
use Rattle.phase_steps.specs.Places.{Own, new_place}
use Rattle.phase_steps.specs.Rows.{pair_of}
use Rattle.catalog.specs.declared.versions.Known.{Known}
use Rattle.catalog.specs.declared.versions.Stage.{Stage}
use Rattle.catalog.specs.declared.versions.Stage.TheVariants.{Calm, Both, AfterFirst, AfterSecond, RolledBack}
use Rattle.catalog.specs.Laws.{ViewsNameColumns}
use Rattle.catalog.specs.Versions.{newer_tables, table_on}
use Rattle.catalog.specs.Views.{half_of, lens_among, own_positions, pair_among, pair_at, pair_in, pair_positions, places_of_half, position_among, positions, row_places, selected}

-- ---- shapes

-- what one of a migration's versions has of a pair
abbrev half_shape : Side → Pair → Shape
half_shape Old pair = pair.old
half_shape New pair = pair.new

of_shapes : (old new : Option Shape) (lens : Option Lens) (pair : Pair) → option_and_then (λ o. option_and_then (λ n. option_map (λ l. pair_of o n l) lens) new) old ≡ Some pair → (old ≡ Some pair.old) × (new ≡ Some pair.new)
of_shapes None new lens pair is = absurd (cc)
of_shapes (Some o) None lens pair is = absurd (cc)
of_shapes (Some o) (Some n) None pair is = absurd (cc)
of_shapes (Some o) (Some n) (Some l) pair is =
    let same : pair_of o n l ≡ pair = cc in
    (ap (λ p. Some p.old) same, ap (λ p. Some p.new) same)

among_shapes : (before after : Schema) (fates : List (ℕ × Fate)) (number : ℕ) (pair : Pair) → pair_among before after fates number ≡ Some pair → (shape_numbered before number ≡ Some pair.old) × (shape_numbered after number ≡ Some pair.new)
among_shapes before after fates number pair is = of_shapes (shape_numbered before number) (shape_numbered after number) (lens_among fates number) pair is

shape_found : (schema : Schema) (table : Table) → find (λ t. t.1 == table.1) schema.tables ≡ Some table → Some table.2 ≡ shape_numbered schema table.1
shape_found schema table found = sym (ap (option_map (λ t. t.2)) found)

old_shape : (current : Schema) (stage : Stage) (table : Table) (pair : Pair) → find (λ t. t.1 == table.1) current.tables ≡ Some table → pair_at current stage table.1 ≡ Some pair → Some table.2 ≡ Some (half_shape (half_of stage Old) pair)
old_shape current Calm table pair found is = absurd (cc)
old_shape current (Both name schema fates) table pair found is = shape_found current table found ∙ (among_shapes current schema fates table.1 pair is).0
old_shape current (AfterFirst lost fates) table pair found is = shape_found current table found ∙ (among_shapes lost current fates table.1 pair is).1
old_shape current (AfterSecond lost fates) table pair found is = shape_found current table found ∙ (among_shapes lost current fates table.1 pair is).1
old_shape current (RolledBack lost fates) table pair found is = shape_found current table found ∙ (among_shapes current lost fates table.1 pair is).0

new_shape : (current : Schema) (stage : Stage) (table : Table) (pair : Pair) → find (λ t. t.1 == table.1) (newer_tables stage) ≡ Some table → pair_at current stage table.1 ≡ Some pair → Some table.2 ≡ Some (half_shape (half_of stage New) pair)
new_shape current Calm table pair found is = absurd (cc)
new_shape current (Both name schema fates) table pair found is = shape_found schema table found ∙ (among_shapes current schema fates table.1 pair is).1
new_shape current (AfterFirst lost fates) table pair found is = absurd (cc)
new_shape current (AfterSecond lost fates) table pair found is = absurd (cc)
new_shape current (RolledBack lost fates) table pair found is = absurd (cc)

side_shape : (known : Known) (side : Side) (table : Table) (pair : Pair) → table_on known side table.1 ≡ Some table → pair_in known table.1 ≡ Some pair → Some table.2 ≡ Some (half_shape (half_of known.stage side) pair)
side_shape known Old table pair found is = old_shape known.schema known.stage table pair found is
side_shape known New table pair found is = new_shape known.schema known.stage table pair found is

-- ---- lengths

half_long : PairsAreLong → (half : Side) (pair : Pair) → IsPair pair → length (places_of_half half pair) ≡ length (half_shape half pair).columns
half_long long Old pair is = length-map (enumerate_from 0 pair.lens.old_cols) (λ column. Own column.0) ∙ length-enumerate_from 0 pair.lens.old_cols ∙ (long pair is).0
half_long long New pair is = length-map (enumerate_from 0 pair.lens.new_cols) new_place ∙ length-enumerate_from 0 pair.lens.new_cols ∙ (long pair is).1

positions_long : PairsAreLong → (stage : Stage) (side : Side) (pair : Pair) → IsPair pair → length (pair_positions stage side pair) ≡ length (half_shape (half_of stage side) pair).columns
positions_long long stage side pair is = length-map (selected stage side pair) (position_among (row_places stage pair)) ∙ half_long long (half_of stage side) pair is

-- ---- views

abbrev columns_in : Option Shape → ℕ
columns_in None = 0
columns_in (Some shape) = length shape.columns

pub name_columns : PairsAreLong → ViewsNameColumns
name_columns long known side table pair found has is =
    let names = map (λ column. column.name) table.2.columns in
    let at : positions known side table ≡ pair_positions known.stage side pair =
    ap (λ p. option_map_or (pair_positions known.stage side) p (own_positions table.2.columns)) has in
    let wide : length table.2.columns ≡ length (half_shape (half_of known.stage side) pair).columns = ap columns_in (side_shape known side table pair found has) in
    let same : length (positions known side table) ≡ length names =
    ap length at ∙ positions_long long known.stage side pair is ∙ sym wide ∙ sym (length-map table.2.columns (λ column. column.name)) in
    (firsts-zip names (positions known side table) same, seconds-zip names (positions known side table) same ∙ at)
