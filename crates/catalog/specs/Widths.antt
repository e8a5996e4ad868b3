-- How many columns the tables may have that a catalog is made of. The limit is our own.
use Rattle.std.specs.Prelude.{ℕ, Bool, true, ◌&&◌, List, [], length, nat_le}
use Rattle.std.specs.List.{list_all}
use Rattle.std.specs.Option.{option_map_or}
use Rattle.sql_eval.specs.Shape.{max_columns}
use Rattle.mig_lens.specs.declared.columns.Lens.{Lens}
use Rattle.mig_lens.specs.declared.columns.Side.TheVariants.{Old, New}
use Rattle.mig_lens.specs.declared.plans.Fate.{Fate}
use Rattle.mig_lens.specs.Plan.{Table, lens_in}
use Rattle.catalog.specs.declared.versions.Known.{Known}
use Rattle.catalog.specs.declared.versions.Stage.{Stage}
use Rattle.catalog.specs.declared.versions.Stage.TheVariants.{Calm, Both, AfterFirst, AfterSecond, RolledBack}
use Rattle.catalog.specs.Versions.{tables_on}

abbrev pub table_is_narrow : Table → Bool
table_is_narrow table = nat_le (length table.2.columns) max_columns

abbrev pub lens_is_narrow : Lens → Bool
lens_is_narrow lens = nat_le (length lens.old_cols) max_columns && nat_le (length lens.new_cols) max_columns

abbrev pub fate_is_narrow : ℕ × Fate → Bool
fate_is_narrow fate = option_map_or lens_is_narrow (lens_in fate.1) true

abbrev pub fates_at : Stage → List (ℕ × Fate)
fates_at Calm = []
fates_at (Both name schema fates) = fates
fates_at (AfterFirst lost fates) = fates
fates_at (AfterSecond lost fates) = fates
fates_at (RolledBack lost fates) = fates

-- No table of a version that stands has too many columns, and no lens is over too many.
abbrev pub is_narrow : Known → Bool
is_narrow known =
    list_all table_is_narrow (tables_on known Old) && list_all table_is_narrow (tables_on known New)
    && list_all fate_is_narrow (fates_at known.stage)
