-- What the machine answers to the commands of a migration, and what they leave.
--
-- That a migration is started, that the rows which stood then are filled by `up` in batches, and that it is then completed, which takes the old version away, or rolled back, which takes the new one away: pgroll's documentation. All else is our own.
use Rattle.std.specs.Prelude.{ℕ, ◌+◌, ℤ, List, [], ◌∷◌, ◌++◌, ◌==◌, Bool, false, ◌||◌, Option, Some, None, Result, Ok, Err, codes, is_some, length, map, nat_lt, not, take, unwrap_or, sum_by, if◌then◌else◌}
use Rattle.std.specs.List.{filter, filter_map, list_any, zip}
use Rattle.std.specs.Option.{option_and_then, option_map, option_map_or, option_or}
use Rattle.sql_base.specs.Weight.{value_weight}
use Rattle.sql_eval.specs.Row.{least}
use Rattle.mig_lens.specs.declared.faults.PlanFault.{PlanFault}
use Rattle.mig_lens.specs.declared.faults.PlanFault.TheVariants as plan_fault
use Rattle.mig_lens.specs.declared.faults.Refusal.TheVariants.{BackfillRefused, BadExpr, BadType, ColumnTwice, DownNeeded, Exists, KeyColumn, Limit, NoActive, NoSuchColumn, NoSuchTable, NotFilled, NotValid, Unfinished, UpNeeded}
use Rattle.mig_lens.specs.Lens.{is_carry, unfilled}
use Rattle.mig_lens.specs.Plan.{created_in}
use Rattle.mig_plan.specs.Plan.{plan_of}
use Rattle.phase_steps.specs.declared.phases.Phase.{Phase}
use Rattle.phase_steps.specs.Phases.{may_fill, may_start}
use Rattle.row_rules.specs.Changes.{cause_together, changes}
use Rattle.row_rules.specs.Rows.{rows_at}
use Rattle.row_rules.specs.Site.{half, name_of, number_of, other}
use Rattle.row_rules.specs.Steps.{begun_row, invalid as broken_constraint, show_heavy}
use Rattle.machine.specs.Done.{CommandOutcome, Done, Started, Stepped, answered}
use Rattle.machine.specs.State.{Shared, filling_site, lens_among, missing_keys, rows_of, shared, table_on}
use Rattle.machine.specs.Statement.{changed}
use Rattle.machine.specs.Words.{Asked, Both, Calm, Cause, Cell, Change, Complete, Fate, Filled, Halves, Kept, Kind, Lens, Migrates, Migration, Mode, New, NotRead, Old, Plan, Refusal, Rollback, Schema, Side, Start, State, Value, and_then, first_some, guarded, map_fault, table_numbered, without}
use Rattle.machine.specs.Words.job
use Rattle.machine.specs.Words.kind

-- The new version's name, while a migration is active.
abbrev pub active_name : Mode → Option (List ℕ)
active_name Calm = None
active_name (Both name schema fates) = Some name

-- How far a migration has come: which commands may come, and which step each of them takes next, rests on this alone.
abbrev pub phase_of : State → Phase
phase_of s = record { version = s.version; active = active_name s.mode; left = s.left; kind = s.kind }

-- ---- START

-- Why the migration can't be started now: P3, then P1 and P6.
abbrev pub may_not_start : State → Migration → Option Refusal
may_not_start s m = may_start m.name (phase_of s)

-- A migration that has no plan is refused for the plan's fault. (Planning as it is defined never wants memory, so the last of these isn't met.)
abbrev pub unplanned : PlanFault → Refusal
unplanned (plan_fault.NoSuchTable name) = NoSuchTable name
unplanned (plan_fault.NoSuchColumn table name) = NoSuchColumn table name
unplanned (plan_fault.Exists name) = Exists name
unplanned (plan_fault.KeyColumn table) = KeyColumn table
unplanned (plan_fault.ColumnTwice table column) = ColumnTwice table column
unplanned (plan_fault.UpNeeded table column) = UpNeeded table column
unplanned (plan_fault.DownNeeded table column) = DownNeeded table column
unplanned (plan_fault.BadExpr place) = BadExpr place
unplanned (plan_fault.BadType place) = BadType place
unplanned (plan_fault.Limit which) = Limit which
unplanned plan_fault.NoMemory = Limit []

abbrev pub planned : State → Migration → Result Plan Refusal
planned s m = elim (plan_of s.schema s.next_table m) [ Ok plan ↦ Ok plan | Err fault ↦ Err (unplanned fault) ]

-- The rows of a table as the migration begins with them.
abbrev pub begun_table : List (ℕ × Fate) → ℕ × List Kept → ℕ × List Kept
begun_table fates table = option_map_or (λ lens. (table.0, map (begun_row lens) table.1)) (lens_among fates table.0) table

-- Whether the new version would show a row of a table that both versions have too heavy.
abbrev pub has_heavy : List (ℕ × Fate) → ℕ × List Kept → Bool
has_heavy fates table = option_map_or (λ lens. show_heavy lens table.1) (lens_among fates table.0) false

-- P20: it would.
abbrev pub too_heavy : State → Plan → Option Refusal
too_heavy s plan = if list_any (has_heavy plan.fates) s.tables then Some (Limit (codes "row")) else None

-- The tables that the migration creates, in order of creation: each begins without a row.
abbrev pub created_tables : List (ℕ × Fate) → List (ℕ × List Kept)
created_tables fates = map (λ number. (number, [])) (created_in fates)

-- The two versions stand, and the numbers of created tables aren't used again.
abbrev pub started : State → List ℕ → Plan → State
started s name plan = record s {
  mode = Both name plan.schema plan.fates;
  next_table = s.next_table + length (created_in plan.fates);
  tables = map (begun_table plan.fates) s.tables ++ created_tables plan.fates;
}

abbrev pub start_planned : State → Migration → Plan → CommandOutcome
start_planned s m plan =
    without (too_heavy s plan) (record { reply = Start m.name; after = started s m.name plan; wrote = Started m })

abbrev pub start_read : State → Migration → CommandOutcome
start_read s m = guarded (may_not_start s m) (and_then (planned s m) (start_planned s m))

abbrev pub start : State → Asked → CommandOutcome
start s (Migrates m) = start_read s m
start s (NotRead refusal) = Err refusal

-- ---- FILL

-- the most rows of one batch; our own
abbrev pub max_batch : ℕ
max_batch = 10000

abbrev pub bad_batch : ℕ → Option Refusal
bad_batch n = if n == 0 || nat_lt max_batch n then Some (Limit (codes "batch")) else None

-- Why no batch can be filled: P20, then P3, then P2.
abbrev pub may_not_fill : State → ℕ → Option Refusal
may_not_fill s n = option_or (bad_batch n) (may_fill (phase_of s))

abbrev pub refused_batch : List ℕ → Cause → Refusal
refused_batch table cause = BackfillRefused table cause.key cause.code

-- The filled rows stand, where they are accepted beside the others. (The rows that a batch may write can't pass the limit on a statement's weight, and their number stays.)
abbrev pub batch_settled : State → Shared → List Change → CommandOutcome
batch_settled s pair all =
    without (option_map (refused_batch (name_of pair.new)) (cause_together (filling_site s pair) job.Fill (rows_of s (number_of pair.new)) all))
    (changed s (filling_site s pair) job.Fill all)

-- These rows of a table that both versions have, in ascending key, are filled: each is made and looked at before the next one, then all together. P19 has the key and the code of the first refusal: of the first row that has a fault, by ascending key; else, constraint by constraint, the least key that has an equal.
abbrev pub batch : State → Shared → List Kept → CommandOutcome
batch s pair rows =
    and_then (map_fault (refused_batch (name_of pair.new)) (changes (filling_site s pair) job.Fill rows)) (batch_settled s pair)

-- The rows of these keys of the table of a number are filled. (Without keys, or in a table that only one version has, there is nothing to fill.)
abbrev pub fill_keys : State → ℕ → List ℤ → CommandOutcome
fill_keys s number keys = option_map_or (λ pair. batch s pair (rows_at keys (rows_of s number))) (shared s number) (Ok (answered s Filled))

-- The tables that have a row to be filled, in order of creation.
abbrev pub has_missing : State → ℕ → Bool
has_missing s number = nat_lt 0 (length (missing_keys s number))

abbrev pub unfilled_tables : State → List ℕ
unfilled_tables s = filter (has_missing s) (map (λ table. table.0) s.tables)

-- The least n missing keys of the first such table.
abbrev pub least_batch : State → ℕ → Option ℕ → CommandOutcome
least_batch s n None = Ok (answered s Filled)
least_batch s n (Some number) = fill_keys s number (take n (missing_keys s number))

abbrev pub first_of : List ℕ → Option ℕ
first_of [] = None
first_of (number ∷ numbers) = Some number

-- The batch of one lane: the refusals, then FILLED exactly where no new half is missing, else the least missing keys.
abbrev pub least_fill : State → ℕ → CommandOutcome
least_fill s n = guarded (may_not_fill s n) (least_batch s n (first_of (unfilled_tables s)))

-- ---- COMPLETE

-- P4: the least key that is still to be filled, of this table.
abbrev pub not_filled_in : State → ℕ → Option Refusal
not_filled_in s number =
    option_and_then (λ pair. option_map (λ key. NotFilled (name_of pair.new) key) (least (missing_keys s number))) (shared s number)

-- Of the first table that has one.
abbrev pub not_filled : State → List ℕ → Option Refusal
not_filled s numbers = first_some (not_filled_in s) numbers

-- P5: a constraint isn't met, with a key.
abbrev pub not_valid : List ℕ × ℤ → Refusal
not_valid broken = NotValid broken.0 broken.1

-- The constraint that the rows of a table don't meet, where the new version has the table.
abbrev pub invalid_in : State → ℕ → Option (List ℕ × ℤ)
invalid_in s number = option_and_then (λ table. broken_constraint table (rows_of s number)) (table_on s New number)

-- Of the first table that isn't valid.
abbrev pub invalid : State → List ℕ → Option (List ℕ × ℤ)
invalid s numbers = first_some (invalid_in s) numbers

abbrev pub numbers_of : State → List ℕ
numbers_of s = map (λ table. table.0) s.tables

-- Why the migration can't be completed: P4, then P5, each by tables in order of creation.
abbrev pub may_not_complete : State → Option Refusal
may_not_complete s = option_or (not_filled s (numbers_of s)) (option_map not_valid (invalid s (numbers_of s)))

-- ---- how a migration ends

-- How a migration ends: the version of which side goes, and which steps of tidying are left then.
pub record Ending : Type 0 where
  pub gone : Side
  pub kind : Kind
  pub left : ℕ

-- The new version stays, and two steps are left.
abbrev pub by_completing : Ending
by_completing = record { gone = Old; kind = kind.Complete; left = 2 }

-- The old version stays, and one step is left.
abbrev pub by_rolling_back : Ending
by_rolling_back = record { gone = New; kind = kind.Rollback; left = 1 }

-- How a lens has the columns of a side.
abbrev pub cells_on : Side → Lens → List Cell
cells_on Old lens = lens.old_cols
cells_on New lens = lens.new_cols

-- The weight of the values of a half that its lens doesn't carry.
abbrev pub lost_value : Cell × Value → ℕ
lost_value place = if is_carry place.0 then 0 else value_weight place.1

abbrev pub lost_weight : List Cell → List Value → ℕ
lost_weight cells values = sum_by lost_value (zip cells values)

-- What a row shows through a version of a table that both have.
abbrev pub shown_on : Side → Lens → Halves → List Value
shown_on Old lens halves = unwrap_or halves.old []
shown_on New lens halves = unwrap_or halves.new (unfilled lens (unwrap_or halves.old []))

-- The half of the side that stays is the one that the row has then. What is lost with the other version is what the row showed there in columns that aren't carried.
abbrev pub staying_row : Side → Option Lens → Kept → Kept
staying_row gone lens row = record {
  key = row.key;
  halves = record { old = half (other gone) row.halves; new = None };
  lost = option_map_or (λ lens. lost_weight (cells_on gone lens) (shown_on gone lens row.halves)) lens 0;
}

abbrev pub staying_table : Side → List (ℕ × Fate) → ℕ × List Kept → ℕ × List Kept
staying_table gone fates table = (table.0, map (staying_row gone (lens_among fates table.0)) table.1)

-- The tables that the version which stays has, with the rows that stay.
abbrev pub staying_tables : Side → Schema → List (ℕ × Fate) → List (ℕ × List Kept) → List (ℕ × List Kept)
staying_tables gone schema fates tables = map (staying_table gone fates) (filter (λ table. is_some (table_numbered schema table.0)) tables)

-- How many columns of a table are lost with the version of a side.
abbrev pub lost_columns_in : Side → Lens → ℕ
lost_columns_in gone lens = length (filter (λ cell. not (is_carry cell)) (cells_on gone lens))

-- Of each of these tables that loses any.
abbrev pub lost_in_table : Side → List (ℕ × Fate) → ℕ × List Kept → Option (ℕ × ℕ)
lost_in_table gone fates table =
    option_and_then (λ lens. if nat_lt 0 (lost_columns_in gone lens) then Some (table.0, lost_columns_in gone lens) else None) (lens_among fates table.0)

-- The version of this name and these tables alone stands, with the steps of tidying left that the ending says.
abbrev pub standing_alone : Ending → List ℕ → Schema → List (ℕ × Fate) → State → State
standing_alone ending name schema fates s =
    let tables = staying_tables ending.gone schema fates s.tables in
    record {
      version = name;
      schema = schema;
      mode = Calm;
      left = ending.left;
      kind = ending.kind;
      next_table = s.next_table;
      tables = tables;
      lost_columns = filter_map (lost_in_table ending.gone fates) tables;
    }

-- Nothing is lost any more.
abbrev pub without_loss : Kept → Kept
without_loss row = record row { lost = 0 }

abbrev pub table_without_loss : ℕ × List Kept → ℕ × List Kept
table_without_loss table = (table.0, map without_loss table.1)

-- ---- COMPLETE, step by step

-- A step of completing is done.
abbrev pub stepped : ℕ → State → Done
stepped step t = record { reply = Complete step; after = t; wrote = Stepped step }

abbrev pub finish : State → Mode → CommandOutcome
finish s Calm = Err NoActive
finish s (Both name schema fates) = without (may_not_complete s) (stepped 1 (standing_alone by_completing name schema fates s))

-- The next step of tidying: the second step of completing, which takes what was lost, or the third, which is the last. Nothing that a statement shows changes.
abbrev pub tidied : State → Done
tidied s =
    if s.left == 2
    then stepped 2 (record s { left = 1; tables = map table_without_loss s.tables; lost_columns = [] })
    else stepped 3 (record s { left = 0; kind = kind.Nothing })

-- COMPLETE does one step: where steps are left, the next one; else the migration's completion. P3 comes before P2.
abbrev pub complete : State → CommandOutcome
complete s = elim s.kind [
  | kind.Nothing ↦ finish s s.mode
  | kind.Complete ↦ Ok (tidied s)
  | kind.Rollback ↦ Err (Unfinished kind.Rollback)
]

-- ---- ROLLBACK

-- A step of rolling back is done. Its number among all steps follows those of the three steps of completing.
abbrev pub stepped_back : ℕ → State → Done
stepped_back step t = record { reply = Rollback step; after = t; wrote = Stepped (step + 3) }

-- The old version alone stands again, with the old halves as they are. It isn't looked at whether a new half is missing.
abbrev pub roll_back : State → Mode → CommandOutcome
roll_back s Calm = Err NoActive
roll_back s (Both name schema fates) = Ok (stepped_back 1 (standing_alone by_rolling_back s.version s.schema fates s))

-- The second step, which is the last, takes what was lost. Nothing that a statement shows changes.
abbrev pub tidied_back : State → Done
tidied_back s = stepped_back 2 (record s { left = 0; kind = kind.Nothing; tables = map table_without_loss s.tables; lost_columns = [] })

-- ROLLBACK does one step: where steps of rolling back are left, the next one; else the first. P3 comes before P2.
abbrev pub rollback : State → CommandOutcome
rollback s = elim s.kind [
  | kind.Nothing ↦ roll_back s s.mode
  | kind.Complete ↦ Err (Unfinished kind.Complete)
  | kind.Rollback ↦ Ok (tidied_back s)
]
