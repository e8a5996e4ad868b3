-- What the engine stores, and what that means as a state of the machine.
--
-- The engine keeps a frame, which is a state without its rows; from the first step of completing or of rolling back until the last one what the version that is gone had; and per table its stored rows by ascending key, in the form in which they are stored. Where one version alone has a table, and no step is left, a stored row is that version's row. From START on a table that both versions have keeps its rows by the pair's layout: the old columns, the shadow places, the mark. The first step of completing takes the old version away and leaves the rows; the second takes the old columns that are lost, and the mark; the third orders the places. The first step of rolling back takes the new version away and leaves the rows, and the second takes the shadow places and the mark. The rows of a table that the version which goes had alone stay with what is kept of it until the second step, and no version shows them. So a row is stored once, whatever number of versions stand, and each version's view selects its half.
use Rattle.std.specs.Prelude.{◌≡◌, ◌≤◌, ℕ, ℤ, Bool, List, [], ◌==◌, false, true, Option, Some, None, is_some, map, nat_eq, unwrap_or, if◌then◌else◌}
use Rattle.std.specs.List.{AllByRecursion, list_any}
use Rattle.std.specs.Option.{option_and_then, option_map_or}
use Rattle.sql_base.specs.declared.shapes.Schema.{Schema}
use Rattle.sql_base.specs.declared.values.Value.{Value}
use Rattle.mig_lens.specs.declared.columns.Lens.{Lens}
use Rattle.mig_lens.specs.declared.columns.Side.{Side}
use Rattle.mig_lens.specs.declared.columns.Side.TheVariants.{Old, New}
use Rattle.mig_lens.specs.declared.faults.Kind.{Kind}
use Rattle.mig_lens.specs.declared.faults.Kind.TheVariants as kind
use Rattle.mig_lens.specs.declared.plans.Fate.{Fate}
use Rattle.mig_lens.specs.Laws.{IsSchema, Joins}
use Rattle.mig_lens.specs.Plan.{table_numbered}
use Rattle.row_rules.specs.declared.kinds.Halves.{Halves}
use Rattle.row_rules.specs.declared.kinds.Kept.{Kept}
use Rattle.row_rules.specs.Site.{half, halves_on, shape_of}
use Rattle.machine.specs.declared.states.Mode.TheVariants.{Calm, Both}
use Rattle.machine.specs.declared.states.State.{State}
use Rattle.machine.specs.Lawful.{IsLawful}
use Rattle.machine.specs.Migrate.{lost_columns_in, lost_weight}
use Rattle.machine.specs.Standing.{HalfStands, IsState, NumbersAscend}
use Rattle.machine.specs.State.{Shared, lens_among, lost_columns_of, shared, table_on}
use Rattle.trigger_pair.specs.declared.pairs.Pair.{Pair}
use Rattle.trigger_pair.specs.Rows.{IsPairedRow}
use Rattle.trigger_pair.specs.Stored.{new_half, new_view, old_view, stored_row}
use Rattle.phase_steps.specs.Rows.{IsLaidRow, IsTrimmedRow, left_row, pair_of, returned_row, trimmed, trimmed_view}
use Rattle.roll_core.specs.declared.forms.Form.{Form}
use Rattle.roll_core.specs.declared.forms.Form.TheVariants.{Own, Paired, Left, Trimmed, Returned}

-- ---- rows and tables

-- A stored row is a key and its values, place by place.
abbrev pub StoredRow : Type 0
StoredRow = ℤ × List Value

-- A table as it is stored: its number, the form of its rows, and its rows by ascending key.
pub record StoredTable : Type 0 where
  pub number : ℕ
  pub form : Form
  pub rows : List StoredRow

-- ---- what is kept of a version that is gone

-- Its name, its tables, what became of each of them, and until the second step of completing or of rolling back the tables, with their rows, that it had alone.
pub record Former : Type 0 where
  pub version : List ℕ
  pub schema : Schema
  pub fates : List (ℕ × Fate)
  pub tables : List StoredTable

-- The state as both versions stood, seen from after the first step of completing or of rolling back. (While no step is left nothing is kept of another version.)
abbrev pub both_before : Kind → Former → State → State
both_before kind.Nothing former frame = frame
both_before kind.Complete former frame = record frame {
  version = former.version;
  schema = former.schema;
  mode = Both frame.version frame.schema former.fates;
  left = 0;
  kind = kind.Nothing;
}
both_before kind.Rollback former frame = record frame { mode = Both former.version former.schema former.fates; left = 0; kind = kind.Nothing }

abbrev pub both_again : Former → State → State
both_again former frame = both_before frame.kind former frame

-- ---- the form in which a table's rows are stored

-- The pair of a table that both versions have.
abbrev pub pair_over : Shared → Pair
pair_over both = pair_of (shape_of both.old) (shape_of both.new) both.lens

-- A form over the pair of a table, where both versions have it. A table that one has alone is stored as that side's own.
abbrev pub over_pair : (Pair → Form) → Side → Option Shared → Form
over_pair form alone both = option_map_or (λ both. form (pair_over both)) both (Own alone)

-- What both versions had of a table before that step.
abbrev pub former_pair : Option Former → State → ℕ → Option Shared
former_pair former frame number = option_and_then (λ former. shared (both_again former frame) number) former

-- While one version stands it is the old side.
abbrev pub calm_form : Option Former → State → ℕ → Form
calm_form former frame number = elim frame.kind [
  | kind.Nothing ↦ Own Old
  | kind.Complete ↦ over_pair (if frame.left == 2 then Left else Trimmed) Old (former_pair former frame number)
  | kind.Rollback ↦ over_pair Returned Old (former_pair former frame number)
]

-- The side of a table that one version has alone, while two stand.
abbrev pub side_alone : State → ℕ → Side
side_alone frame number = if is_some (table_on frame Old number) then Old else New

-- The form of the table of a number.
abbrev pub form_in : Option Former → State → ℕ → Form
form_in former frame number = elim frame.mode [
  | Calm ↦ calm_form former frame number
  | Both name schema fates ↦ over_pair Paired (side_alone frame number) (shared frame number)
]

-- ---- the meaning

-- The halves that a stored row has. A table that one version has alone has that side's halves. While both versions stand the old view selects the old half and the new view the new one, which is missing exactly where the mark is true. While steps of tidying are left the standing version's view selects its half.
abbrev pub halves_of : Form → List Value → Halves
halves_of (Own side) values = halves_on side values None
halves_of (Paired pair) values = record { old = Some (old_view pair values); new = new_half pair values }
halves_of (Left pair) values = record { old = Some (new_view pair values); new = None }
halves_of (Trimmed pair) values = record { old = Some (trimmed_view pair.lens values); new = None }
halves_of (Returned pair) values = record { old = Some (old_view pair values); new = None }

-- The lost weight: that of the columns of the version that is gone that aren't carried, until the second step takes them.
abbrev pub lost_of : Form → List Value → ℕ
lost_of (Own side) values = 0
lost_of (Paired pair) values = 0
lost_of (Left pair) values = lost_weight pair.lens.old_cols (old_view pair values)
lost_of (Trimmed pair) values = 0
lost_of (Returned pair) values = lost_weight pair.lens.new_cols (new_view pair values)

abbrev pub kept : Form → StoredRow → Kept
kept form row = record { key = row.0; halves = halves_of form row.1; lost = lost_of form row.1 }

abbrev pub rows_meant : StoredTable → List Kept
rows_meant table = map (kept table.form) table.rows

abbrev pub table_meant : StoredTable → ℕ × List Kept
table_meant table = (table.number, rows_meant table)

-- What an engine stores.
pub record Stored : Type 0 where
  pub frame : State
  pub former : Option Former
  pub tables : List StoredTable

-- The state that it means: the frame, with the rows of these tables.
abbrev pub meaning : Stored → State
meaning stored = record stored.frame { tables = map table_meant stored.tables }

-- ---- what is stored of a row that is written

-- The values that are stored of halves that stand, over what was stored under the key, if anything was: while both versions stand both halves, and no mark; then the standing version's half, with what is lost as it was.
abbrev pub stored_values : Form → Halves → Option (List Value) → List Value
stored_values (Own side) halves before = unwrap_or (half side halves) []
stored_values (Paired pair) halves before = stored_row pair (unwrap_or halves.old []) (unwrap_or halves.new []) false
stored_values (Left pair) halves before = left_row pair.lens (unwrap_or halves.old []) before
stored_values (Trimmed pair) halves before = trimmed pair.lens (left_row pair.lens (unwrap_or halves.old []) None)
stored_values (Returned pair) halves before = returned_row pair.lens (unwrap_or halves.old []) before

-- ---- which parts there are

-- Which rows are stored in a form. While both versions stand a row is filled, or as START left it. After the first step
-- of completing, and after that of rolling back, a row fits the layout: as many values as places, each NULL or of its
-- place's type. The mark may be true, false or NULL then, since no view shows it. The second step of completing leaves
-- the carried columns and the shadow places, and a row fits these. One version alone stores just its rows, and these fit
-- its shape (`IsState`).
abbrev pub IsStoredRow : Form → List Value → Type 0
IsStoredRow (Own side) values = Unit {0}
IsStoredRow (Paired pair) values = IsPairedRow pair values
IsStoredRow (Left pair) values = IsLaidRow pair values
IsStoredRow (Trimmed pair) values = IsTrimmedRow pair values
IsStoredRow (Returned pair) values = IsLaidRow pair values

-- How many columns of a table are lost with the version that is gone, until the second step takes them.
abbrev pub lost_columns_by : Form → ℕ
lost_columns_by (Own side) = 0
lost_columns_by (Paired pair) = 0
lost_columns_by (Left pair) = lost_columns_in Old pair.lens
lost_columns_by (Trimmed pair) = 0
lost_columns_by (Returned pair) = lost_columns_in New pair.lens

-- A table is stored in the form that the frame says, and as many of its columns are lost as the frame says.
pub record IsStoredTable (stored : Stored) (table : StoredTable) : Type 0 where
  pub form : table.form ≡ form_in stored.former stored.frame table.number
  pub lost : lost_columns_of stored.frame table.number ≡ lost_columns_by table.form
  pub rows : AllByRecursion (λ row. IsStoredRow table.form row.1) table.rows

-- The side of the version that is gone, as both stood.
abbrev pub gone_side : Kind → Side
gone_side kind.Nothing = Old
gone_side kind.Complete = Old
gone_side kind.Rollback = New

-- The version before the migration and the one that it made, where one of them is gone.
abbrev pub older_schema : Kind → Schema → Schema → Schema
older_schema kind.Nothing gone standing = gone
older_schema kind.Complete gone standing = gone
older_schema kind.Rollback gone standing = standing

abbrev pub newer_schema : Kind → Schema → Schema → Schema
newer_schema kind.Nothing gone standing = standing
newer_schema kind.Complete gone standing = standing
newer_schema kind.Rollback gone standing = gone

-- A table that the version that is gone had alone: its rows are that version's, each with the row's key.
pub record IsAlone (frame : State) (former : Former) (table : StoredTable) : Type 0 where
  pub form : table.form ≡ Own (gone_side frame.kind)
  pub known : is_some (table_numbered former.schema table.number) ≡ true
  pub gone : table_numbered frame.schema table.number ≡ None
  pub rows : AllByRecursion (λ row. HalfStands (table_numbered former.schema table.number) row.0 (Some row.1)) table.rows

-- The numbers of the tables that are kept of it.
abbrev pub kept_numbers : Former → List ℕ
kept_numbers former = map (λ table. table.number) former.tables

-- Whether the second step of completing has taken them.
abbrev pub tables_taken : Kind → ℕ → Bool
tables_taken kind.Nothing left = false
tables_taken kind.Complete left = left == 1
tables_taken kind.Rollback left = false

-- The version that is gone stood beside the one that stands: the migration's own lenses join the two. Until the second step each table that it had alone is kept, in order of creation. After the second step of completing it has no table left.
pub record FormerStands (frame : State) (former : Former) : Type 0 where
  pub schema : IsSchema former.schema
  pub joined : (number : ℕ) (lens : Lens) → lens_among former.fates number ≡ Some lens → Joins lens number (older_schema frame.kind former.schema frame.schema) (newer_schema frame.kind former.schema frame.schema)
  pub alone : AllByRecursion (IsAlone frame former) former.tables
  pub ascend : NumbersAscend (kept_numbers former)
  pub all : tables_taken frame.kind frame.left ≡ false → (number : ℕ) → is_some (table_numbered former.schema number) ≡ true → table_numbered frame.schema number ≡ None → list_any (nat_eq number) (kept_numbers former) ≡ true
  pub taken : frame.kind ≡ kind.Complete → frame.left ≡ 1 → former.tables ≡ []

-- Something is kept of it exactly while steps of tidying are left.
abbrev pub HasFormer : State → Option Former → Type 0
HasFormer frame None = frame.left ≡ 0
HasFormer frame (Some former) = (1 ≤ frame.left) × FormerStands frame former

-- What holds of the parts of every engine: the frame has no rows of its own, the parts mean a state that stands and which is lawful, the lenses that are kept of the version that is gone join it to the one that stands, and the tables are stored in the forms that the frame says.
pub record IsStored (stored : Stored) : Type 0 where
  pub once : stored.frame.tables ≡ []
  pub stands : IsState (meaning stored)
  pub lawful : IsLawful (meaning stored)
  pub former : HasFormer stored.frame stored.former
  pub tables : AllByRecursion (IsStoredTable stored) stored.tables
