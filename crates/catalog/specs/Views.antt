-- Where the views of a version find its columns in the stored rows, at each stage.
--
-- A table that both of a migration's versions have is stored by the places of the two until the migration is done with. A
-- created or dropped table, and one that no migration is at, is stored as its own columns, in order.
use Rattle.std.specs.Prelude.{ℕ, ◌==◌, List, Option, None, find, map}
use Rattle.std.specs.List.{enumerate_from, position_or_len, zip}
use Rattle.std.specs.Option.{option_map, option_map_or, option_and_then}
use Rattle.sql_base.specs.declared.shapes.Column.{Column}
use Rattle.sql_base.specs.declared.shapes.Schema.{Schema}
use Rattle.mig_lens.specs.declared.columns.Lens.{Lens}
use Rattle.mig_lens.specs.declared.columns.Side.{Side}
use Rattle.mig_lens.specs.declared.columns.Side.TheVariants.{Old, New}
use Rattle.mig_lens.specs.declared.plans.Fate.{Fate}
use Rattle.mig_lens.specs.Plan.{Table, lens_in, shape_numbered}
use Rattle.trigger_pair.specs.declared.pairs.Pair.{Pair}
use Rattle.phase_steps.specs.Places.{Place, completed_places, paired_places, rolled_back_places, same_place, trimmed_row_places}
use Rattle.phase_steps.specs.Rows.{pair_of}
use Rattle.catalog.specs.declared.versions.Known.{Known}
use Rattle.catalog.specs.declared.versions.Stage.{Stage}
use Rattle.catalog.specs.declared.versions.Stage.TheVariants.{Calm, Both, AfterFirst, AfterSecond, RolledBack}
use Rattle.catalog.specs.declared.versions.View.{View}
use Rattle.catalog.specs.Versions.{table_on}

-- ---- tables that both of a migration's versions have

abbrev pub lens_among : List (ℕ × Fate) → ℕ → Option Lens
lens_among fates number = option_and_then (λ fate. lens_in fate.1) (find (λ fate. fate.0 == number) fates)

-- The table of a number in the version before and in the one that the migration makes, where both have it.
abbrev pub pair_among : Schema → Schema → List (ℕ × Fate) → ℕ → Option Pair
pair_among before after fates number =
    option_and_then (λ old. option_and_then (λ new. option_map (λ lens. pair_of old new lens)
    (lens_among fates number)) (shape_numbered after number)) (shape_numbered before number)

-- The same, by the current version's tables and the stage.
abbrev pub pair_at : Schema → Stage → ℕ → Option Pair
pair_at current Calm number = None
pair_at current (Both name schema fates) number = pair_among current schema fates number
pair_at current (AfterFirst lost fates) number = pair_among lost current fates number
pair_at current (AfterSecond lost fates) number = pair_among lost current fates number
pair_at current (RolledBack lost fates) number = pair_among current lost fates number

abbrev pub pair_in : Known → ℕ → Option Pair
pair_in known number = pair_at known.schema known.stage number

-- ---- its places

-- The places of the table's stored rows: the whole layout until C2, which leaves the carried ones and the shadow places.
abbrev pub row_places : Stage → Pair → List Place
row_places Calm pair = paired_places pair
row_places (Both name schema fates) pair = paired_places pair
row_places (AfterFirst lost fates) pair = paired_places pair
row_places (AfterSecond lost fates) pair = trimmed_row_places pair
row_places (RolledBack lost fates) pair = paired_places pair

-- Which of the migration's two versions stands on a side.
abbrev pub half_of : Stage → Side → Side
half_of Calm side = side
half_of (Both name schema fates) side = side
half_of (AfterFirst lost fates) side = New
half_of (AfterSecond lost fates) side = New
half_of (RolledBack lost fates) side = Old

-- What the view of one of the two versions selects of a row.
abbrev pub places_of_half : Side → Pair → List Place
places_of_half Old pair = rolled_back_places pair
places_of_half New pair = completed_places pair

abbrev pub selected : Stage → Side → Pair → List Place
selected stage side pair = places_of_half (half_of stage side) pair

-- ---- views

-- the position of a place among these
abbrev pub position_among : List Place → Place → ℕ
position_among places wanted = position_or_len (λ place. same_place place wanted) places

-- where the places that the view of a side selects stand in a stored row
abbrev pub pair_positions : Stage → Side → Pair → List ℕ
pair_positions stage side pair = map (position_among (row_places stage pair)) (selected stage side pair)

abbrev pub own_positions : List Column → List ℕ
own_positions columns = map (λ column. column.0) (enumerate_from 0 columns)

abbrev pub positions : Known → Side → Table → List ℕ
positions known side table =
    option_map_or (pair_positions known.stage side) (pair_in known table.1) (own_positions table.2.columns)

-- each column's name beside its position
abbrev pub placed : List Column → List ℕ → List (List ℕ × ℕ)
placed columns positions = zip (map (λ column. column.name) columns) positions

abbrev pub view_of : Known → Side → Table → View
view_of known side table = record { name = table.0; columns = placed table.2.columns (positions known side table) }

-- The view of the table of a number in the version of a side.
abbrev pub view_on : Known → Side → ℕ → Option View
view_on known side number = option_map (view_of known side) (table_on known side number)
