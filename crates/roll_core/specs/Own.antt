-- What contracts see of one of the engine's own tables, and what it is seen as.
use Rattle.std.specs.Prelude.{ℕ, ℤ, List, map}
use Rattle.std.specs.FinMap as finite
use Rattle.sql_base.specs.declared.values.Value.{Value}
use Rattle.mig_lens.specs.declared.columns.Side.{Side}
use Rattle.row_rules.specs.Accept.{present}
use Rattle.row_store.specs.Stored.{Rows, Stored}
use Rattle.roll_core.specs.declared.forms.Form.{Form}
use Rattle.roll_core.specs.Store as store

-- A table: its number, the form of its rows, and its rows with the room for new ones.
pub record OwnTable : Type 0 where
  pub number : ℕ
  pub form : Form
  pub rows : Stored

-- The halves of a side that rows have which are stored in a form, by key.
abbrev pub present_in : Side → Form → Rows → List (ℤ × List Value)
present_in side form rows = present side (map (store.kept form) (finite.entries rows))

-- A table, with its rows by ascending key.
abbrev pub seen : OwnTable → store.StoredTable
seen table = record { number = table.number; form = table.form; rows = finite.entries table.rows.rows }
