-- What the engine's own steps are promised, of the frame and the tables alone, and how they answer.
use Rattle.std.specs.Prelude.{◌≡◌, ℕ, ℤ, ◌+◌, Bool, true, false, List, Some, Result, Ok, Err, None, Option, if◌then◌else◌, length, map, nat_lt, sum_by}
use Rattle.std.specs.Option.{option_map, option_or}
use Rattle.sql_base.specs.Outcome.{and_then}
use Rattle.row_rules.specs.Causes.{row_error}
use Rattle.row_rules.specs.Changes.{changes, refused_together}
use Rattle.row_rules.specs.Outcome.{guarded, map_fault}
use Rattle.row_rules.specs.Reach.{reach}
use Rattle.sql_base.specs.declared.shapes.Shape.{Shape}
use Rattle.std.specs.List.{AllByRecursion}
use Rattle.row_rules.specs.declared.kinds.Change.{Change}
use Rattle.row_rules.specs.declared.kinds.Job.{Job}
use Rattle.row_rules.specs.declared.kinds.Job.TheVariants as job
use Rattle.row_rules.specs.declared.stops.Stop.{Stop}
use Rattle.row_rules.specs.declared.stops.Stop.TheVariants.{Because, NoMemory}
use Rattle.row_rules.specs.Site.{Site, other, shape_of}
use Rattle.mig_lens.specs.Plan.{Table}
use Rattle.machine.specs.declared.events.Reply.{Reply}
use Rattle.machine.specs.declared.states.Mode.TheVariants.{Calm}
use Rattle.machine.specs.declared.states.State.{State}
use Rattle.machine.specs.Done.{Done, Outcome}
use Rattle.machine.specs.Standing.{IsState}
use Rattle.machine.specs.Laws.{leaves_all}
use Rattle.machine.specs.Sites.{TableStands}
use Rattle.machine.specs.State.{Found, Shared, lost_columns_of, shared, site_of, table_on}
use Rattle.machine.specs.Statement.{error_reply, max_rows, no_memory, too_many_rows}
use Rattle.machine.specs.Words.{Old}
use Rattle.trigger_pair.specs.declared.pairs.Pair.{Pair}
use Rattle.trigger_pair.specs.Laws.{IsPair}
use Rattle.roll_core.specs.declared.forms.Form.{Form}
use Rattle.roll_core.specs.declared.forms.Form.TheVariants.{Own, Paired, Left, Trimmed, Returned}
use Rattle.roll_core.specs.Store.{IsStoredRow, StoredTable, lost_columns_by, pair_over, rows_meant, table_meant}

-- The state that a frame and tables mean.
abbrev pub meant : State → List StoredTable → State
meant frame tables = record frame { tables = map table_meant tables }

abbrev pub numbers_in : List StoredTable → List ℕ
numbers_in tables = map (λ table. table.number) tables

-- ---- which forms suit a frame

-- Both versions have the table of this number, and this is its pair.
pub record PairedBy (s : State) (number : ℕ) (pair : Pair) : Type 0 where
  pub both : Shared
  pub shares : shared s number ≡ Some both
  pub over : pair ≡ pair_over both
  pub is_pair : IsPair pair

-- One version stands alone, and its table of this number is the pair's new one.
pub record LeftBy (s : State) (number : ℕ) (pair : Pair) : Type 0 where
  pub calm : s.mode ≡ Calm
  pub is_pair : IsPair pair
  pub shape : (table : Table) → table_on s Old number ≡ Some table → pair.new ≡ shape_of table

-- The same, where it is the pair's old one.
pub record ReturnedBy (s : State) (number : ℕ) (pair : Pair) : Type 0 where
  pub calm : s.mode ≡ Calm
  pub is_pair : IsPair pair
  pub shape : (table : Table) → table_on s Old number ≡ Some table → pair.old ≡ shape_of table

-- (What one version has alone the other one doesn't have.)
abbrev pub FormSuits : State → ℕ → Form → Type 0
FormSuits s number (Own side) = table_on s (other side) number ≡ None
FormSuits s number (Paired pair) = PairedBy s number pair
FormSuits s number (Left pair) = LeftBy s number pair
FormSuits s number (Trimmed pair) = LeftBy s number pair
FormSuits s number (Returned pair) = ReturnedBy s number pair

-- The rows of a table are stored in its form.
abbrev pub RowsStored : StoredTable → Type 0
RowsStored table = AllByRecursion (λ row. IsStoredRow table.form row.1) table.rows

-- The state stands, and the tables are stored in forms that suit the frame.
pub record Runs (frame : State) (tables : List StoredTable) : Type 0 where
  pub stands : IsState (meant frame tables)
  pub forms : AllByRecursion (λ table. FormSuits frame table.number table.form) tables
  pub lost : AllByRecursion (λ table. lost_columns_of frame table.number ≡ lost_columns_by table.form) tables
  pub rows : AllByRecursion RowsStored tables

-- ---- how a step answers

-- The tables are the same but for their rows.
abbrev pub SameForms : List StoredTable → List StoredTable → Type 0
SameForms old new = map {B = ℕ × Form} (λ table. (table.number, table.form)) new ≡ map {B = ℕ × Form} (λ table. (table.number, table.form)) old

-- A reply comes with the state afterwards; one that only looks, a refusal, or want of memory, leaves the tables as they were.
abbrev pub Comes : State → List StoredTable → Outcome → Result Reply (Stop Reply) → List StoredTable → Type 0
Comes frame old outcome (Ok reply) new = (done : Done) × (outcome ≡ Ok done) × (reply ≡ done.reply) × (meant frame new ≡ done.after) × (leaves_all reply ≡ true → new ≡ old)
Comes frame old outcome (Err (Because reply)) new = (outcome ≡ Err reply) × (new ≡ old)
Comes frame old outcome (Err NoMemory) new = new ≡ old

-- The site is that of a table of the frame which stands.
abbrev pub IsSite : State → Site → Type 0
IsSite frame site = (found : Found) × (site ≡ site_of frame found) × TableStands frame found

-- ---- the number of rows

abbrev pub stored_count : List StoredTable → ℕ
stored_count tables = sum_by (λ table. length table.rows) tables

-- Whether there would be more rows than there may be, where there are so many. Only new rows are more than there were.
abbrev pub too_many : ℕ → Job → List Change → Bool
too_many count (job.Put rows) all = nat_lt max_rows (count + length all)
too_many count (job.Alter sets condition) all = false
too_many count (job.Remove condition) all = false
too_many count job.Fill all = false

abbrev pub too_many_error : ℕ → Job → List Change → Option Reply
too_many_error count what all = if too_many count what all then Some too_many_rows else None

-- Why the changes of a table aren't accepted together, where there are so many rows.
abbrev pub refused_all : StoredTable → ℕ → Site → Job → List Change → Option Reply
refused_all table count site what all = option_or (option_map error_reply (refused_together site what (rows_meant table) all)) (too_many_error count what all)

-- What a statement changes in a table, or why it is refused, where there are so many rows in all.
abbrev pub accepted : StoredTable → ℕ → Site → Job → Result (List Change) Reply
accepted table count site what =
    and_then (map_fault (λ cause. error_reply (row_error cause)) (changes site what (rows_meant table)))
    (λ all. guarded (refused_all table count site what all) (Ok all))

-- The one key that a statement's job reaches, where its WHERE names one. An INSERT looks at keys alone.
abbrev pub job_reach : Shape → Job → Option ℤ
job_reach shape (job.Put rows) = None
job_reach shape (job.Alter sets condition) = reach shape condition
job_reach shape (job.Remove condition) = reach shape condition
job_reach shape job.Fill = None

-- A statement's job, and not a batch's.
abbrev pub IsStatement : Job → Type 0
IsStatement job.Fill = ⊥
IsStatement _ = Unit {0}

-- The reply that an answer is.
abbrev pub reply_of : Result Reply (Stop Reply) → Reply
reply_of (Ok reply) = reply
reply_of (Err (Because reply)) = reply
reply_of (Err NoMemory) = no_memory
