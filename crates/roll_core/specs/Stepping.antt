-- What the steps of a migration leave of what is stored, and what its commands are promised.
use Rattle.std.specs.Prelude.{◌≡◌, true, false, ℕ, ℤ, ◌+◌, Bool, List, [], ◌++◌, Option, None, Some, Result, Ok, Err, is_some, length, map, not, ◌==◌, if◌then◌else◌}
use Rattle.std.specs.List.{AllByRecursion, filter, filter_map}
use Rattle.std.specs.Option.{option_and_then, option_map, option_or}
use Rattle.sql_base.specs.Outcome.{and_then}
use Rattle.sql_base.specs.declared.values.Value.{Value}
use Rattle.mig_lens.specs.declared.faults.Kind.{Kind}
use Rattle.mig_lens.specs.declared.faults.Kind.TheVariants as kind
use Rattle.mig_lens.specs.declared.faults.Refusal.{Refusal}
use Rattle.mig_lens.specs.declared.faults.Refusal.TheVariants.{NotFilled}
use Rattle.mig_lens.specs.declared.migrations.Migration.{Migration}
use Rattle.mig_lens.specs.declared.plans.Fate.{Fate}
use Rattle.mig_lens.specs.declared.plans.Plan.{Plan}
use Rattle.mig_lens.specs.Plan.{created_in, table_numbered}
use Rattle.row_rules.specs.Outcome.{first_some, guarded, without}
use Rattle.row_rules.specs.Rows.{missing_keys}
use Rattle.row_rules.specs.Site.{name_of, other}
use Rattle.row_rules.specs.Steps.{invalid as broken_constraint}
use Rattle.sql_eval.specs.Row.{least}
use Rattle.row_rules.specs.declared.stops.Stop.{Stop}
use Rattle.row_rules.specs.declared.stops.Stop.TheVariants.{Because, NoMemory}
use Rattle.machine.specs.declared.events.Reply.{Reply}
use Rattle.machine.specs.declared.states.State.{State}
use Rattle.machine.specs.Done.{CommandOutcome, Done}
use Rattle.machine.specs.declared.states.Mode.{Mode}
use Rattle.machine.specs.declared.states.Mode.TheVariants.{Calm, Both}
use Rattle.machine.specs.Migrate.{lost_in_table, may_not_start, not_valid, planned, too_heavy}
use Rattle.machine.specs.State.{Shared, lens_among, shared, table_on}
use Rattle.machine.specs.Laws.{leaves_all}
use Rattle.machine.specs.declared.events.Asked.{Asked}
use Rattle.machine.specs.declared.events.Asked.TheVariants.{Read as Migrates, Refused as NotRead}
use Rattle.machine.specs.Words.{New, Old, Side}
use Rattle.roll_core.specs.declared.commands.Cmd.{Cmd}
use Rattle.roll_core.specs.declared.commands.Cmd.TheVariants.{Start, Complete, Rollback}
use Rattle.trigger_pair.specs.declared.pairs.Pair.{Pair}
use Rattle.trigger_pair.specs.Stored.{begun, is_marked, old_view}
use Rattle.phase_steps.specs.Rows.{trimmed, trimmed_view}
use Rattle.roll_core.specs.declared.forms.Form.{Form}
use Rattle.roll_core.specs.declared.forms.Form.TheVariants.{Own, Paired, Left, Trimmed, Returned}
use Rattle.roll_core.specs.Store.{Former, HasFormer, IsStored, IsStoredTable, Stored, StoredRow, StoredTable, meaning, over_pair, rows_meant, table_meant}

-- ---- rows

-- The values that a step stores of a row. START, which leads to the pair's layout, stores it as the row is to begin with. The second step of completing, which leads from that layout, takes the old columns that are lost and the mark; the third orders the places. The second step of rolling back leaves the old columns.
abbrev pub stepped_values : Form → List Value → List Value
stepped_values (Own side) values = values
stepped_values (Paired pair) values = begun pair values
stepped_values (Left pair) values = trimmed pair.lens values
stepped_values (Trimmed pair) values = trimmed_view pair.lens values
stepped_values (Returned pair) values = old_view pair values

abbrev pub stepped_row : Form → StoredRow → StoredRow
stepped_row form row = (row.0, stepped_values form row.1)

-- ---- tables

-- What both versions have of a table, once this plan is begun.
abbrev pub shared_by : State → Plan → ℕ → Option Shared
shared_by frame plan number =
    option_and_then (λ old. option_and_then (λ new. option_map (λ lens. record { old = old; new = new; lens = lens }) (lens_among plan.fates number))
    (table_numbered plan.schema number)) (table_numbered frame.schema number)

-- A table as this plan begins with it: in its pair's layout, where both versions have it.
abbrev pub begun_form : State → Plan → ℕ → Form
begun_form frame plan number = over_pair Paired Old (shared_by frame plan number)

abbrev pub begun_table : State → Plan → StoredTable → StoredTable
begun_table frame plan table = record {
  number = table.number;
  form = begun_form frame plan table.number;
  rows = map (stepped_row (begun_form frame plan table.number)) table.rows;
}

-- A table that the plan creates begins without a row, and the new version alone has it.
abbrev pub created_table : ℕ → StoredTable
created_table number = record { number = number; form = Own New; rows = [] }

-- The form of a table of which the version of a side is gone.
abbrev pub form_without : Side → Pair → Form
form_without Old pair = Left pair
form_without New pair = Returned pair

-- The first step of completing and that of rolling back leave the rows as they are stored. The version that stays is the old side from then on.
abbrev pub left_form : Side → Form → Form
left_form gone (Own side) = Own Old
left_form gone (Paired pair) = form_without gone pair
left_form gone (Left pair) = Left pair
left_form gone (Trimmed pair) = Trimmed pair
left_form gone (Returned pair) = Returned pair

-- No row of a table that both versions have misses its new half.
abbrev pub NoneMissing : Form → List StoredRow → Type 0
NoneMissing (Own side) rows = Unit {0}
NoneMissing (Paired pair) rows = AllByRecursion (λ row. is_marked pair row.1 ≡ false) rows
NoneMissing (Left pair) rows = Unit {0}
NoneMissing (Trimmed pair) rows = Unit {0}
NoneMissing (Returned pair) rows = Unit {0}

-- So it is asked of a table where the old version goes.
abbrev pub MayLeave : Side → StoredTable → Type 0
MayLeave Old table = NoneMissing table.form table.rows
MayLeave New table = Unit {0}

-- The halves that stay are the new ones.
abbrev pub stays_new : Side → Form → Bool
stays_new gone (Own Old) = false
stays_new gone (Own New) = true
stays_new Old (Paired pair) = true
stays_new New (Paired pair) = false
stays_new gone (Left pair) = false
stays_new gone (Trimmed pair) = false
stays_new gone (Returned pair) = false

-- Its rows stay as they are stored.
abbrev pub left_table : Side → StoredTable → StoredTable
left_table gone table = record table { form = left_form gone table.form }

-- The next form: after the second step of completing the places are left that stay, and after the third one, or the second of rolling back, the version's own columns.
abbrev pub tidied_form : Form → Form
tidied_form (Own side) = Own side
tidied_form (Paired pair) = Paired pair
tidied_form (Left pair) = Trimmed pair
tidied_form (Trimmed pair) = Own Old
tidied_form (Returned pair) = Own Old

abbrev pub tidied_table : StoredTable → StoredTable
tidied_table table = record { number = table.number; form = tidied_form table.form; rows = map (stepped_row table.form) table.rows }

-- How many columns of a table are lost with the version of a side, where any is.
abbrev pub lost_by : Side → List (ℕ × Fate) → StoredTable → Option (ℕ × ℕ)
lost_by gone fates table = lost_in_table gone fates (table_meant table)

-- ---- START

-- The plan by which a migration is started, or why it can't be.
abbrev pub startable : State → Migration → Result Plan Refusal
startable s m = guarded (may_not_start s m) (and_then (planned s m) (λ plan. without (too_heavy s plan) plan))

-- The frame, once a plan is begun.
abbrev pub begun_frame : State → List ℕ → Plan → State
begun_frame frame name plan = record frame {
  mode = Both name plan.schema plan.fates;
  next_table = frame.next_table + length (created_in plan.fates);
}

-- ---- whether a migration may be completed

-- Why the rows of a table that the frame has can't stand in the new version alone: P4 and P5.
abbrev pub not_filled_in : State → StoredTable → Option Refusal
not_filled_in frame table =
    option_and_then (λ both. option_map (λ key. NotFilled (name_of both.new) key) (least (missing_keys (rows_meant table)))) (shared frame table.number)

abbrev pub invalid_in : State → StoredTable → Option (List ℕ × ℤ)
invalid_in frame table = option_and_then (λ newer. broken_constraint newer (rows_meant table)) (table_on frame New table.number)

abbrev pub may_not_complete : State → List StoredTable → Option Refusal
may_not_complete frame tables =
    option_or (first_some (not_filled_in frame) tables) (option_map not_valid (first_some (invalid_in frame) tables))

-- ---- the first step of completing or of rolling back, by the side of the version that goes

-- The other version alone stands: the new one with two steps of tidying left, or the old one with one.
abbrev pub left_by : Side → State → List (ℕ × ℕ) → Mode → State
left_by gone frame lost Calm = frame
left_by Old frame lost (Both name schema fates) = record frame { version = name; schema = schema; mode = Calm; left = 2; kind = kind.Complete; lost_columns = lost }
left_by New frame lost (Both name schema fates) = record frame { mode = Calm; left = 1; kind = kind.Rollback; lost_columns = lost }

abbrev pub left_frame : Side → List (ℕ × ℕ) → State → State
left_frame gone lost frame = left_by gone frame lost frame.mode

-- The columns that are lost.
abbrev pub lost_columns : Side → Mode → List StoredTable → List (ℕ × ℕ)
lost_columns gone Calm tables = []
lost_columns gone (Both name schema fates) tables = filter_map (lost_by gone fates) tables

-- The tables that the other version has stay, and those that this one alone has go with it.
abbrev pub stays : Side → State → StoredTable → Bool
stays gone frame table = is_some (table_on frame (other gone) table.number)

abbrev pub goes : Side → State → StoredTable → Bool
goes gone frame table = not (stays gone frame table)

-- What is kept of the version that goes, with these tables.
abbrev pub former_by : Side → State → Mode → List StoredTable → Option Former
former_by gone frame Calm tables = None
former_by Old frame (Both name schema fates) tables =
    Some (record { version = frame.version; schema = frame.schema; fates = fates; tables = tables })
former_by New frame (Both name schema fates) tables =
    Some (record { version = name; schema = schema; fates = fates; tables = tables })

abbrev pub former_of : Side → Stored → Option Former
former_of gone stored = former_by gone stored.frame stored.frame.mode (filter (goes gone stored.frame) stored.tables)

-- ---- the other steps

-- The second step of completing takes what was lost, and the third one is the last.
abbrev pub tidied_frame : State → State
tidied_frame frame =
    if frame.left == 2 then record frame { left = 1; lost_columns = [] } else record frame { left = 0; kind = kind.Nothing }

-- The second step takes the rows of the tables that the version that is gone had alone, and the third all that was kept of it.
abbrev pub without_tables : Former → Former
without_tables former = record former { tables = [] }

abbrev pub tidied_former : State → Option Former → Option Former
tidied_former frame former = if frame.left == 2 then option_map without_tables former else None

abbrev pub tidied_number : State → ℕ
tidied_number frame = if frame.left == 2 then 2 else 3

-- The second step of rolling back takes what was lost, and is the last.
abbrev pub tidied_back_frame : State → State
tidied_back_frame frame = record frame { left = 0; kind = kind.Nothing; lost_columns = [] }

-- ---- all that is stored

abbrev pub begun_parts : List ℕ → Plan → Stored → Stored
begun_parts name plan stored = record {
  frame = begun_frame stored.frame name plan;
  former = stored.former;
  tables = map (begun_table stored.frame plan) stored.tables ++ map created_table (created_in plan.fates);
}

-- After the first step of completing or of rolling back, by the side of the version that goes.
abbrev pub left_parts : Side → Stored → Stored
left_parts gone stored = record {
  frame = left_frame gone (lost_columns gone stored.frame.mode stored.tables) stored.frame;
  former = former_of gone stored;
  tables = map (left_table gone) (filter (stays gone stored.frame) stored.tables);
}

-- After the second step of completing or the third.
abbrev pub tidied_parts : Stored → Stored
tidied_parts stored = record {
  frame = tidied_frame stored.frame;
  former = tidied_former stored.frame stored.former;
  tables = map tidied_table stored.tables;
}

-- After the second step of rolling back.
abbrev pub tidied_back_parts : Stored → Stored
tidied_back_parts stored = record {
  frame = tidied_back_frame stored.frame;
  former = None;
  tables = map tidied_table stored.tables;
}

abbrev pub completed_by : Stored → Kind → Stored
completed_by stored kind.Nothing = left_parts Old stored
completed_by stored kind.Complete = tidied_parts stored
completed_by stored kind.Rollback = stored

-- After the step of completing that is next.
abbrev pub completed_parts : Stored → Stored
completed_parts stored = completed_by stored stored.frame.kind

abbrev pub rolled_back_by : Stored → Kind → Stored
rolled_back_by stored kind.Nothing = left_parts New stored
rolled_back_by stored kind.Complete = stored
rolled_back_by stored kind.Rollback = tidied_back_parts stored

-- After the step of rolling back that is next.
abbrev pub rolled_back_parts : Stored → Stored
rolled_back_parts stored = rolled_back_by stored stored.frame.kind

-- What is stored after a START that is accepted: the migration's plan is begun.
abbrev pub StartStores : Stored → Asked → Stored → Type 0
StartStores old (Migrates m) new = (plan : Plan) × (planned (meaning old) m ≡ Ok plan) × (new ≡ begun_parts m.name plan old)
StartStores old (NotRead refusal) new = ⊥

-- What is stored after a command that is accepted.
abbrev pub DoneStores : Stored → Cmd → Stored → Type 0
DoneStores old (Start asked) new = StartStores old asked new
DoneStores old Complete new = new ≡ completed_parts old
DoneStores old Rollback new = new ≡ rolled_back_parts old

-- The reply of an accepted command comes with what is stored after it.
abbrev pub Stores : Stored → Cmd → Reply → Stored → Type 0
Stores old cmd reply new = leaves_all reply ≡ false → DoneStores old cmd new

-- ---- what a command is promised

-- The parts of an engine, but for what the laws of the machine say of its state: the frame has no rows of its own, what is kept of a version that is gone is the migration's, and the tables are stored in the forms that the frame says.
pub record AreKept (stored : Stored) : Type 0 where
  pub once : stored.frame.tables ≡ []
  pub former : HasFormer stored.frame stored.former
  pub tables : AllByRecursion (IsStoredTable stored) stored.tables

-- The frame and the tables are those of an engine.
abbrev pub AreRun : State → List StoredTable → Type 0
AreRun frame tables = (former : Option Former) × IsStored (record { frame = frame; former = former; tables = tables })

-- A reply comes with the state afterwards; a refusal, or want of memory, leaves all as it was stored.
abbrev pub Goes : Stored → CommandOutcome → Result Reply (Stop Refusal) → Stored → Type 0
Goes old outcome (Ok reply) new = (done : Done) × (outcome ≡ Ok done) × (reply ≡ done.reply) × (meaning new ≡ done.after)
Goes old outcome (Err (Because refusal)) new = (outcome ≡ Err refusal) × (new ≡ old)
Goes old outcome (Err NoMemory) new = new ≡ old
