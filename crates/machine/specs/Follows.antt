-- What it means that a history does the work of one lane: statements and commands in one list, each in its turn.
--
-- A task is what one line asks for. A statement is one event of the lane; so are `\start` and `\batch`, of control. `\fill` is batches, each the same event, up to one that fills nothing: FILLED, a refusal, or want of memory. `\complete` and `\rollback` are one event a step, up to the last step or a refusal. How commands go on is our own.
use Rattle.std.specs.Prelude.{◌≡◌, ◌⊎◌, ℕ, List, [], ◌∷◌, ◌++◌, ◌==◌, Bool, true, false, not}
use Rattle.sql_base.specs.declared.stmts.Stmt.TheVariants.{SetPath}
use Rattle.machine.specs.declared.events.Entry.{Entry}
use Rattle.machine.specs.declared.events.Event.{Event}
use Rattle.machine.specs.declared.events.Event.TheVariants as event
use Rattle.machine.specs.declared.events.Reading.TheVariants.{Stmt as Read}
use Rattle.machine.specs.declared.events.Reply.{Reply}
use Rattle.machine.specs.declared.events.Reply.TheVariants as reply
use Rattle.machine.specs.declared.tasks.Task.{Task}
use Rattle.machine.specs.declared.tasks.Task.TheVariants as task

-- the rows of one batch of `\fill`
abbrev pub default_batch : ℕ
default_batch = 1000

-- ---- paths

-- A SET that was accepted gives the path of what is said after it.
abbrev pub path_by : List (List ℕ) → Event → Reply → List (List ℕ)
path_by path (event.Said said (Read (SetPath names))) reply.Set = names
path_by path _ _ = path

-- The path after these entries, which began with this one.
abbrev pub path_after : List (List ℕ) → List Entry → List (List ℕ)
path_after path [] = path
path_after path (entry ∷ entries) = path_after (path_by path entry.event entry.reply) entries

-- ---- the events of a task

-- The entry is this event, of this actor.
pub record IsEvent (actor : ℕ) (what : Event) (entry : Entry) : Type 0 where
  pub by : entry.actor ≡ actor
  pub event : entry.event ≡ what

-- The entries are just this event, once.
abbrev pub Once : ℕ → Event → List Entry → Type 0
Once actor what [] = ⊥
Once actor what (entry ∷ []) = IsEvent actor what entry
Once actor what (entry ∷ next ∷ entries) = ⊥

-- After a batch that filled rows another one follows.
abbrev pub goes_on_filling : Reply → Bool
goes_on_filling (reply.Fill table count first last) = true
goes_on_filling _ = false

-- After a step of completing another one follows, but for the last step.
abbrev pub goes_on_completing : Reply → Bool
goes_on_completing (reply.Complete step) = not (step == 3)
goes_on_completing _ = false

-- After a step of rolling back another one follows, but for the last step.
abbrev pub goes_on_rolling_back : Reply → Bool
goes_on_rolling_back (reply.Rollback step) = not (step == 2)
goes_on_rolling_back _ = false

-- Each of the entries is this event, and after each the task goes on.
abbrev pub GoOn : ℕ → Event → (Reply → Bool) → List Entry → Type 0
GoOn actor what goes_on [] = Unit {0}
GoOn actor what goes_on (entry ∷ entries) = IsEvent actor what entry × (goes_on entry.reply ≡ true) × GoOn actor what goes_on entries

-- The entries are this event over and over: after each but the last the task goes on, and with the last it is done.
abbrev pub UpTo : ℕ → Event → (Reply → Bool) → List Entry → Type 0
UpTo actor what goes_on [] = ⊥
UpTo actor what goes_on (entry ∷ []) = IsEvent actor what entry × (goes_on entry.reply ≡ false)
UpTo actor what goes_on (entry ∷ next ∷ entries) = IsEvent actor what entry × (goes_on entry.reply ≡ true) × UpTo actor what goes_on (next ∷ entries)

-- Who says the statements of a lane, and who does its commands, by their numbers.
pub record Actors : Type 0 where
  pub lane : ℕ
  pub control : ℕ

-- The entries are all the events of a task whose statements go through this path.
abbrev pub Does : Actors → List (List ℕ) → Task → List Entry → Type 0
Does actors path (task.Say reading) entries = Once actors.lane (event.Said path reading) entries
Does actors path (task.Start asked) entries = Once actors.control (event.Start asked) entries
Does actors path (task.Batch n) entries = Once actors.control (event.Fill n) entries
Does actors path task.Fill entries = UpTo actors.control (event.Fill default_batch) goes_on_filling entries
Does actors path task.Complete entries = UpTo actors.control event.Complete goes_on_completing entries
Does actors path task.Rollback entries = UpTo actors.control event.Rollback goes_on_rolling_back entries

-- The entries are the first events of a task that isn't done with them; or there are none.
abbrev pub Opens : Actors → Task → List Entry → Type 0
Opens actors task.Fill entries = GoOn actors.control (event.Fill default_batch) goes_on_filling entries
Opens actors task.Complete entries = GoOn actors.control event.Complete goes_on_completing entries
Opens actors task.Rollback entries = GoOn actors.control event.Rollback goes_on_rolling_back entries
Opens actors (task.Say reading) entries = entries ≡ []
Opens actors (task.Start asked) entries = entries ≡ []
Opens actors (task.Batch n) entries = entries ≡ []

-- ---- the work

-- The entries are the events of these tasks, in order, each task once, and nothing else. Statements go through this path until a SET gives another one.
abbrev pub Follows : Actors → List (List ℕ) → List Task → List Entry → Type 0
Follows actors path [] entries = entries ≡ []
Follows actors path (task ∷ tasks) entries =
    (mine : List Entry) × (rest : List Entry) × (entries ≡ mine ++ rest) × Does actors path task mine × Follows actors (path_after path mine) tasks rest

-- The entries are the first events of these tasks: some tasks are done, of the next one perhaps a part, and nothing else is.
abbrev pub Begins : Actors → List (List ℕ) → List Task → List Entry → Type 0
Begins actors path [] entries = entries ≡ []
Begins actors path (task ∷ tasks) entries =
    Opens actors task entries ⊎
    ((mine : List Entry) × (rest : List Entry) × (entries ≡ mine ++ rest) × Does actors path task mine × Begins actors (path_after path mine) tasks rest)
