-- What the plain step's own views of a state stand for, and how its calls answer.
use Rattle.std.specs.Prelude.{◌≡◌, Result, Ok, Err}
use Rattle.row_rules.specs.Site as sites
use Rattle.row_rules.specs.declared.stops.Stop.{Stop}
use Rattle.row_rules.specs.declared.stops.Stop.TheVariants.{Because, NoMemory}
use Rattle.machine.specs.declared.statement.BegunRef.{BegunRef}
use Rattle.machine.specs.declared.statement.BegunRef.TheVariants as lent
use Rattle.machine.specs.declared.tables.FoundTable.{FoundTable}
use Rattle.machine.specs.declared.tables.SharedTable.{SharedTable}
use Rattle.machine.specs.declared.tables.VersionSeen.{VersionSeen}
use Rattle.machine.specs.Done.{Done}
use Rattle.machine.specs.State.{Found, Shared, Version}
use Rattle.machine.specs.Statement.{Begun, Sets, Shows, Writes}
use Rattle.machine.specs.Words.{Refusal, Refused, Reply, State}

abbrev pub version : VersionSeen → Version
version seen = record { side = seen.side; schema = seen.schema.now }

abbrev pub found : FoundTable → Found
found table = record { side = table.side; table = table.table.now }

abbrev pub pair : SharedTable → Shared
pair lent = record { old = lent.old.now; new = lent.new.now; lens = lent.lens.now }

abbrev pub begun : BegunRef → Begun
begun (lent.Writes site job) = Writes (sites.site_of site) job
begun (lent.Shows site items condition) = Shows (sites.site_of site) items.now condition.now
begun lent.Sets = Sets

-- The call answers what is wanted, by what its value stands for, or the cause; and may answer want of memory in its place.
abbrev pub AnswersAs : {L T E : Type 0} → (L → T) → Result T E → Result L (Stop E) → Type 0
AnswersAs meaning wanted (Ok value) = wanted ≡ Ok (meaning value)
AnswersAs meaning wanted (Err (Because cause)) = wanted ≡ Err cause
AnswersAs meaning wanted (Err NoMemory) = Unit {0}

-- The reply and the state afterwards, without what was written.
abbrev pub told : Done → Reply × State
told done = (done.reply, done.after)

abbrev pub replied : {E : Type 0} → Result Done E → Result (Reply × State) E
replied (Ok done) = Ok (told done)
replied (Err cause) = Err cause

-- A refused command is answered its refusal.
abbrev pub with_refusal : {T : Type 0} → Result T (Stop Refusal) → Result T (Stop Reply)
with_refusal (Ok value) = Ok value
with_refusal (Err (Because refusal)) = Err (Because (Refused refusal))
with_refusal (Err NoMemory) = Err NoMemory
