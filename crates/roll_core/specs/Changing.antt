-- What changes come to in stored rows.
use Rattle.std.specs.Prelude.{ℕ, List, [], ◌∷◌, Option, map, slice_get, slice_set}
use Rattle.std.specs.Option.{option_map}
use Rattle.std.specs.FinMap as finite
use Rattle.row_rules.specs.declared.kinds.Change.{Change}
use Rattle.row_rules.specs.declared.kinds.Change.TheVariants.{Put, Remove}
use Rattle.row_store.specs.Stored.{Rows}
use Rattle.roll_core.specs.declared.changing.StoredChange.{StoredChange}
use Rattle.roll_core.specs.declared.changing.StoredChange.TheVariants as stored
use Rattle.roll_core.specs.declared.forms.Form.{Form}
use Rattle.roll_core.specs.Seen.{OwnTable, seen}
use Rattle.roll_core.specs.Store as store
use Rattle.roll_core.specs.Store.{stored_values}

-- A change, as it is done to what is stored: a row's values are made over what was stored under its key, if anything was.
abbrev pub stored_change : Form → Rows → Change → StoredChange
stored_change form rows (Put row) = stored.Put row.key (stored_values form row.halves (finite.get rows row.key))
stored_change form rows (Remove key) = stored.Remove key

abbrev pub put_stored : StoredChange → Rows → Rows
put_stored (stored.Put key values) rows = finite.insert rows key values
put_stored (stored.Remove key) rows = finite.remove rows key

-- These changes, one after another.
abbrev pub put_all : List StoredChange → Rows → Rows
put_all [] rows = rows
put_all (change ∷ changes) rows = put_all changes (put_stored change rows)

abbrev pub rows_after : Form → List Change → Rows → Rows
rows_after form changes rows = put_all (map (stored_change form rows) changes) rows

-- The table with what is stored changed so.
abbrev pub with_stored : List StoredChange → OwnTable → store.StoredTable
with_stored changes table = record { number = table.number; form = table.form; rows = finite.entries (put_all changes table.rows.rows) }

-- The table with these changes.
abbrev pub changed : List Change → OwnTable → store.StoredTable
changed changes table = record { number = table.number; form = table.form; rows = finite.entries (rows_after table.form changes table.rows.rows) }

-- The tables with these changes in the one at a place, where there is one.
abbrev pub with_changes : ℕ → List Change → List OwnTable → Option (List store.StoredTable)
with_changes at changes tables = option_map (λ table. slice_set (map seen tables) at (changed changes table)) (slice_get tables at)

-- ---- the indexes

-- A change to what is stored, as a change to the rows that are meant.
abbrev pub meant_change : Form → StoredChange → Change
meant_change form (stored.Put key values) = Put (store.kept form (key, values))
meant_change form (stored.Remove key) = Remove key

abbrev pub meant_changes : Form → List StoredChange → List Change
meant_changes form changes = map (meant_change form) changes
