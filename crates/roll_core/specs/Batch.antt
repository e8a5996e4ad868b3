-- Batches, as they are looked at before anything is put.
use Rattle.std.specs.Prelude.{◌≡◌, ◌<◌, ◌&&◌, ℕ, Bool, true, false, List, Option, Some, None, Result, Ok, Err, find, length, map, slice_get, take}
use Rattle.std.specs.List.{AllByRecursion, filter, list_any}
use Rattle.std.specs.Option.{option_and_then, option_map}
use Rattle.sql_base.specs.Outcome.{and_then}
use Rattle.mig_lens.specs.declared.faults.Refusal.{Refusal}
use Rattle.row_rules.specs.declared.kinds.Change.{Change}
use Rattle.row_rules.specs.declared.kinds.Job.{Job}
use Rattle.row_rules.specs.declared.kinds.Kept.{Kept}
use Rattle.row_rules.specs.declared.stops.Stop.{Stop}
use Rattle.row_rules.specs.declared.stops.Stop.TheVariants.{Because, NoMemory}
use Rattle.row_rules.specs.Changes.{cause_together, changes}
use Rattle.row_rules.specs.Outcome.{map_fault, without}
use Rattle.row_rules.specs.Site.{Site, is_missing, name_of}
use Rattle.machine.specs.declared.events.Reply.{Reply}
use Rattle.machine.specs.declared.events.Reply.TheVariants.{Refused}
use Rattle.machine.specs.declared.states.State.{State}
use Rattle.machine.specs.Done.{CommandOutcome, as_outcome}
use Rattle.machine.specs.Follows.{goes_on_filling}
use Rattle.machine.specs.Migrate.{least_batch, refused_batch}
use Rattle.machine.specs.Statement.{written_reply}
use Rattle.roll_core.specs.declared.forms.Form.{Form}
use Rattle.roll_core.specs.declared.forms.Form.TheVariants.{Own, Paired, Left, Trimmed, Returned}
use Rattle.roll_core.specs.Changing.{with_changes}
use Rattle.roll_core.specs.Running.{Comes, RowsStored, SameForms, meant, reply_of}
use Rattle.roll_core.specs.Seen.{OwnTable, seen}
use Rattle.roll_core.specs.Store.{StoredTable, rows_meant}

-- Both versions have the table.
abbrev pub is_paired : Form → Bool
is_paired (Own side) = false
is_paired (Paired pair) = true
is_paired (Left pair) = false
is_paired (Trimmed pair) = false
is_paired (Returned pair) = false

-- A row of the table is still to be filled. (One version alone has nothing to fill.)
abbrev pub is_unfilled : StoredTable → Bool
is_unfilled table = is_paired table.form && list_any is_missing (rows_meant table)

-- The place of the first such table, where there is one.
abbrev pub FirstUnfilled : List StoredTable → Option ℕ → Type 0
FirstUnfilled tables None = find is_unfilled tables ≡ None
FirstUnfilled tables (Some at) = (at < length tables) × (find is_unfilled tables ≡ slice_get tables at)

-- What is done to the first n of a table's rows that are still to be filled, where it is accepted: each beside what it was, then all together.
abbrev pub batch_changes : Site → Job → List Kept → ℕ → Result (List Change) Refusal
batch_changes site what rows n =
    and_then (map_fault (refused_batch (name_of site.here)) (changes site what (take n (filter is_missing rows))))
    (λ all. without (option_map (refused_batch (name_of site.here)) (cause_together site what rows all)) all)

-- So in the table at a place, if there is one.
abbrev pub changes_at : Site → Job → ℕ → ℕ → List OwnTable → Option (Result (List Change) Refusal)
changes_at site what at n tables = option_map (λ table. batch_changes site what (rows_meant (seen table)) n) (slice_get tables at)

-- These changes are put there and told, or the tables are as they were.
abbrev pub FillsThrough : Site → Job → ℕ → ℕ → List OwnTable → Result Reply (Stop Reply) → List StoredTable → Type 0
FillsThrough site what at n old (Ok reply) new = (all : List Change) × (changes_at site what at n old ≡ Some (Ok all)) × (reply ≡ written_reply site what all) × (Some new ≡ with_changes at all old)
FillsThrough site what at n old (Err (Because reply)) new = (refusal : Refusal) × (changes_at site what at n old ≡ Some (Err refusal)) × (reply ≡ Refused refusal) × (new ≡ map seen old)
FillsThrough site what at n old (Err NoMemory) new = new ≡ map seen old

-- The answer to a batch comes with the tables afterwards: one that fills none leaves them as they were.
pub record Fills (frame : State) (old : List StoredTable) (outcome : CommandOutcome) (result : Result Reply (Stop Reply)) (new : List StoredTable) : Type 0 where
  pub answers : Comes frame old (as_outcome outcome) result new
  pub looks : goes_on_filling (reply_of result) ≡ false → new ≡ old
  pub forms : SameForms old new
  pub stored : AllByRecursion RowsStored new

-- The number of the table at a place, if there is one.
abbrev pub number_at : List StoredTable → ℕ → Option ℕ
number_at tables at = option_map (λ table. table.number) (slice_get tables at)

-- What a batch comes to that takes the least keys of the table at a place, where there is one.
abbrev pub batch_at : State → List StoredTable → Option ℕ → ℕ → CommandOutcome
batch_at frame tables first n = least_batch (meant frame tables) n (option_and_then (number_at tables) first)
