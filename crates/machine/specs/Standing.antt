-- Which states there are: what holds of every state that a run reaches.
--
-- The definitions of the machine say what happens in any state at all. In such a state they say just what their words say: tables stand in order of creation, rows in ascending key, and no name means two things.
use Rattle.std.specs.Prelude.{◌≡◌, ◌⊎◌, ◌≤◌, ◌<◌, ◌||◌, ℕ, ℤ, Bool, true, false, ◌==◌, List, [], ◌∷◌, Option, Some, None, is_some, nat_eq}
use Rattle.std.specs.List.{AllByRecursion, list_all, list_any}
use Rattle.std.specs.Option.{option_map_or}
use Rattle.std.specs.Str.{bytes_eq}
use Rattle.sql_base.specs.Fit.{row_fits}
use Rattle.sql_base.specs.declared.shapes.Schema.{Schema}
use Rattle.sql_base.specs.declared.values.Value.{Value}
use Rattle.mig_lens.specs.declared.columns.Side.TheVariants.{Old, New}
use Rattle.mig_lens.specs.declared.faults.Kind.{Kind}
use Rattle.mig_lens.specs.declared.faults.Kind.TheVariants.{Nothing, Complete, Rollback}
use Rattle.mig_lens.specs.declared.plans.Fate.{Fate}
use Rattle.mig_lens.specs.Laws.{AllBelow, FateStands, IsSchema}
use Rattle.mig_lens.specs.Layout.{has_mark}
use Rattle.mig_lens.specs.Plan.{Table}
use Rattle.row_rules.specs.declared.kinds.Kept.{Kept}
pub use Rattle.row_rules.specs.Rows.{Ascends}
use Rattle.machine.specs.declared.states.Mode.{Mode}
use Rattle.machine.specs.declared.states.Mode.TheVariants.{Calm, Both}
use Rattle.machine.specs.declared.states.State.{State}
use Rattle.row_rules.specs.Site.{key_of, number_of, shape_of}
use Rattle.machine.specs.State.{Shared, fate_among, row_count, shared, table_on}
use Rattle.machine.specs.Statement.{max_rows}
use Rattle.machine.specs.Migrate.{numbers_of}

-- ---- rows

-- A half is there exactly where its side has the table; it fits the shape, and has the row's key in the key's place.
abbrev pub HalfStands : Option Table → ℤ → Option (List Value) → Type 0
HalfStands None key None = Unit {0}
HalfStands None key (Some values) = ⊥
HalfStands (Some table) key None = ⊥
HalfStands (Some table) key (Some values) = (row_fits (shape_of table) values ≡ true) × (key_of (shape_of table) values ≡ key)

-- The new half may be missing in a table that both versions have and of which a new column has to be made.
abbrev pub may_miss : Option Shared → Bool
may_miss pair = option_map_or (λ pair. has_mark pair.lens) pair false

abbrev pub NewStands : Bool → Option Table → ℤ → Option (List Value) → Type 0
NewStands true table key None = Unit {0}
NewStands true table key (Some values) = HalfStands table key (Some values)
NewStands false table key half = HalfStands table key half

pub record RowStands (s : State) (number : ℕ) (row : Kept) : Type 0 where
  pub old : HalfStands (table_on s Old number) row.key row.halves.old
  pub new : NewStands (may_miss (shared s number)) (table_on s New number) row.key row.halves.new

abbrev pub RowsStand : State → ℕ → List Kept → Type 0
RowsStand s number [] = Unit {0}
RowsStand s number (row ∷ rows) = RowStands s number row × RowsStand s number rows

-- The rows of each of these tables.
abbrev pub TablesStand : State → List (ℕ × List Kept) → Type 0
TablesStand s [] = Unit {0}
TablesStand s (table ∷ tables) = Ascends table.1 × RowsStand s table.0 table.1 × TablesStand s tables

-- ---- versions

abbrev pub NumbersAscend : List ℕ → Type 0
NumbersAscend [] = Unit {0}
NumbersAscend (number ∷ []) = Unit {0}
NumbersAscend (number ∷ next ∷ numbers) = (number < next) × NumbersAscend (next ∷ numbers)

-- Each of the version's tables has its rows among those of these numbers.
abbrev pub has_all : List ℕ → Schema → Bool
has_all numbers schema = list_all (λ table. list_any (nat_eq (number_of table)) numbers) schema.tables

-- The schema is well formed, each of its tables has its rows, and the next table's number is above all of theirs.
pub record VersionStands (schema : Schema) (numbers : List ℕ) (next : ℕ) : Type 0 where
  pub schema_stands : IsSchema schema
  pub rows : has_all numbers schema ≡ true
  pub below : AllBelow next schema.tables

-- A version that stands has the table of this number.
abbrev pub is_known : State → ℕ → Bool
is_known s number = is_some (table_on s Old number) || is_some (table_on s New number)

-- The fate of the table of this number, where it has one: both versions have the table, joined by the lens, or one of
-- the two has it alone.
abbrev pub FateAt : Schema → Schema → ℕ → Option (ℕ × Fate) → Type 0
FateAt old new number None = Unit {0}
FateAt old new number (Some fate) = FateStands number old new fate.1

-- The new version, beside the old one: another name, and for each table of either its fate.
pub record NewerStands (s : State) (name : List ℕ) (schema : Schema) (fates : List (ℕ × Fate)) : Type 0 where
  pub version : VersionStands schema (numbers_of s) s.next_table
  pub named : bytes_eq name s.version ≡ false
  pub no_steps : s.kind ≡ Nothing
  pub fates_stand : (number : ℕ) → FateAt s.schema schema number (fate_among fates number)
  pub all : (number : ℕ) → is_known s number ≡ true → is_some (fate_among fates number) ≡ true

abbrev pub ModeStands : State → Mode → Type 0
ModeStands s Calm = Unit {0}
ModeStands s (Both name schema fates) = NewerStands s name schema fates

-- Two steps or one are left of completing, one of rolling back.
abbrev pub StepsStand : Kind → ℕ → Type 0
StepsStand Nothing left = left ≡ 0
StepsStand Complete left = (left ≡ 2) ⊎ (left ≡ 1)
StepsStand Rollback left = left ≡ 1

-- Whether rows may have lost weights: after the first step of completing or of rolling back, until the next one.
abbrev pub may_lose : Kind → ℕ → Bool
may_lose Nothing left = false
may_lose Complete left = left == 2
may_lose Rollback left = left == 1

abbrev pub NoneLost : List Kept → Type 0
NoneLost rows = AllByRecursion (λ row. row.lost ≡ 0) rows

-- Nothing is lost: no column, and of no row any weight.
pub record NothingLost (s : State) : Type 0 where
  pub columns : s.lost_columns ≡ []
  pub rows : AllByRecursion (λ table. NoneLost table.1) s.tables

-- ---- the whole state

pub record IsState (s : State) : Type 0 where
  pub steps : StepsStand s.kind s.left
  pub version : VersionStands s.schema (numbers_of s) s.next_table
  pub mode : ModeStands s s.mode
  pub numbers : NumbersAscend (numbers_of s)
  -- Each table with rows is one of a version that stands.
  pub known : list_all (is_known s) (numbers_of s) ≡ true
  pub tables : TablesStand s s.tables
  pub few : row_count s ≤ max_rows
  pub lost : may_lose s.kind s.left ≡ false → NothingLost s
