-- What lines ask for.
use Rattle.std.proofs.Common.{List, ℕ, [], ◌∷◌, ◌++◌, refl, inl, inr}
use Rattle.mig_json.specs.Migration.{TextsReadOrFail}
use Rattle.script_text.specs.declared.lines.Line.{Line}
use Rattle.script_text.specs.declared.lines.Line.TheVariants.{Text, Command}
use Rattle.script_text.specs.declared.lines.Order.TheVariants as order
use Rattle.machine.specs.declared.events.Asked.{Asked}
use Rattle.machine.specs.declared.events.Asked.TheVariants.{Read as Migrates, Refused as NotRead}
use Rattle.machine.specs.declared.tasks.Task.{Task}
use Rattle.machine.specs.declared.tasks.Task.TheVariants as task
use Rattle.pgroll_top.specs.Work.{AreTasks, AsksFor, IsTask, refusal_of}
use Rattle.pgroll_top.proofs.Reading.{LinesReadOrFail, some_reading}

-- each text of a migration asks for something
pub some_asked : TextsReadOrFail → (text : List ℕ) → (asked : Asked) × AsksFor text asked
some_asked law text = elim (law text) [ inl read ↦ (Migrates read.0, read.1) | inr fails ↦ (NotRead (refusal_of fails.0), (fails.0, fails.1, refl)) ]

-- so does each line
pub some_task : TextsReadOrFail → LinesReadOrFail → (line : Line) → (one : Task) × IsTask line one
some_task law reads (Text line) = let read = some_reading reads line in (task.Say read.0, read.1)
some_task law reads (Command (order.Start text)) = let asked = some_asked law text in (task.Start asked.0, asked.1)
some_task law reads (Command (order.Batch n)) = (task.Batch n, refl)
some_task law reads (Command order.Fill) = (task.Fill, tt)
some_task law reads (Command order.Complete) = (task.Complete, tt)
some_task law reads (Command order.Rollback) = (task.Rollback, tt)

pub some_tasks : TextsReadOrFail → LinesReadOrFail → (lines : List Line) → (tasks : List Task) × AreTasks lines tasks
some_tasks law reads [] = ([], tt)
some_tasks law reads (line ∷ lines) = let first = some_task law reads line in let others = some_tasks law reads lines in (first.0 ∷ others.0, (first.1, others.1))

pub tasks_append : (lines more : List Line) (tasks later : List Task) → AreTasks lines tasks → AreTasks more later → AreTasks (lines ++ more) (tasks ++ later)
tasks_append [] more [] later h k = k
tasks_append [] more (one ∷ tasks) later h k = absurd h
tasks_append (line ∷ lines) more [] later h k = absurd h
tasks_append (line ∷ lines) more (one ∷ tasks) later h k = (h.0, tasks_append lines more tasks later h.1 k)
