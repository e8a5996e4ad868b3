-- Which constraints all rows of a table are known to meet.
--
-- A CHECK or a unique constraint that a migration makes on rows which stood before it and get no fill is enforced on every later write, and isn't valid until the migration's completion has looked at all rows: so it is with a constraint that is added NOT VALID (PostgreSQL manual, ALTER TABLE). Which constraints that is so of is our own.
use Rattle.std.specs.Prelude.{ℕ, List, ◌∷◌, ◌++◌, Bool, false, not, ◌&&◌, ◌||◌, Option, Some, None, map, if◌then◌else◌}
use Rattle.std.specs.List.{list_any}
use Rattle.std.specs.Option.{option_map_or}
use Rattle.std.specs.Str.{bytes_eq}
use Rattle.sql_base.specs.declared.shapes.Shape.{Shape}
use Rattle.mig_lens.specs.declared.columns.Side.TheVariants.{Old, New}
use Rattle.mig_lens.specs.Layout.{has_mark}
use Rattle.mig_lens.specs.Plan.{Table, key_name}
use Rattle.catalog.specs.declared.versions.Known.{Known}
use Rattle.catalog.specs.Versions.{table_on}
use Rattle.catalog.specs.Views.{pair_in}

-- The names of a table's checks and of its unique constraints.
abbrev pub added_names : Shape → List (List ℕ)
added_names shape = map (λ check. check.name) shape.checks ++ map (λ unique. unique.name) shape.uniques

-- Those of all its constraints that are meant here: these, and its key's.
abbrev pub constraint_names : Table → List (List ℕ)
constraint_names table = key_name table.0 ∷ added_names table.2

-- Whether a version's table has a constraint of this name, where the version has the table.
abbrev pub has_constraint : Option Table → List ℕ → Bool
has_constraint table name = option_map_or (λ table. list_any (bytes_eq name) (constraint_names table)) table false

-- Whether it has a check or a unique constraint of this name.
abbrev pub has_added : Option Table → List ℕ → Bool
has_added table name = option_map_or (λ table. list_any (bytes_eq name) (added_names table.2)) table false

-- Whether a version that stands has a constraint of this name in the table of a number.
abbrev pub is_constraint : Known → ℕ → List ℕ → Bool
is_constraint known number name = has_constraint (table_on known Old number) name || has_constraint (table_on known New number) name

-- Whether the active migration made it: the new version has such a check or unique constraint, and the old one has no constraint of this name in the table. (A migration gives no constraint a name that one of the old version has.)
abbrev pub is_made : Known → ℕ → List ℕ → Bool
is_made known number name = has_added (table_on known New number) name && not (has_constraint (table_on known Old number) name)

-- Whether both versions have the table and its rows get no fill, since no new column has to be made.
abbrev pub gets_no_fill : Known → ℕ → Bool
gets_no_fill known number = option_map_or (λ pair. not (has_mark pair.lens)) (pair_in known number) false

-- Whether the constraint of this name is valid: it isn't exactly while the migration is active that made it in a table which gets no fill. None where no version that stands has it in this table.
abbrev pub valid : Known → ℕ → List ℕ → Option Bool
valid known number name =
    if is_constraint known number name then Some (not (is_made known number name && gets_no_fill known number)) else None
