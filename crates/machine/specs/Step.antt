-- The machine: which reply it may give to an event, and which state it goes on to.
use Rattle.std.specs.Prelude.{◌≡◌, ◌≤◌, ◌⊎◌, ℕ, ◌+◌, ℤ, List, [], ◌∷◌, Bool, true, false, Option, Some, None, Ok, Err, codes, length}
use Rattle.std.specs.List.{filter}
use Rattle.machine.specs.declared.events.Entry.{Entry}
use Rattle.machine.specs.Done.{Outcome, Wrote, after_of, answered, as_outcome, reply_to, wrote_by}
use Rattle.machine.specs.Migrate.{complete, fill_keys, least_fill, may_not_fill, rollback, start, unfilled_tables}
use Rattle.machine.specs.State.{missing_keys}
use Rattle.machine.specs.Statement.{answer, no_memory, over_limit, syntax}
use Rattle.machine.specs.Words.{C22003, Deep, Error, Event, Filled, Read, Reading, Refusal, Refused, Reply, State, Syntax, TooLong, Wide}
use Rattle.machine.specs.Words.event

-- ---- what an event comes to

-- An integer literal is wider than 64 bits.
abbrev pub wide_literal : Reply
wide_literal = Error C22003 None None

-- What a line comes to, said through this path.
abbrev pub line_outcome : State → List (List ℕ) → Reading → Outcome
line_outcome s path (Read stmt) = answer s path stmt
line_outcome s path TooLong = Err (over_limit (codes "statement"))
line_outcome s path Syntax = Err syntax
line_outcome s path Wide = Err wide_literal
line_outcome s path Deep = Err (over_limit (codes "depth"))

-- What each event comes to without the free choices: memory is there, and a batch takes the least missing keys of the first table that has any.
abbrev pub outcome_of : State → Event → Outcome
outcome_of s (event.Said path reading) = line_outcome s path reading
outcome_of s (event.Start asked) = as_outcome (start s asked)
outcome_of s (event.Fill n) = as_outcome (least_fill s n)
outcome_of s event.Complete = as_outcome (complete s)
outcome_of s event.Rollback = as_outcome (rollback s)

-- The reply, what was written and the state afterwards are the outcome's.
abbrev pub ComesTo : State → Outcome → Reply → Wrote → State → Type 0
ComesTo s outcome reply wrote t = (reply ≡ reply_to outcome) × (wrote ≡ wrote_by outcome) × (t ≡ after_of s outcome)

-- ---- the free choices

-- Some of the missing keys of a table, at least one and at most n.
pub record Chosen (s : State) (n : ℕ) : Type 0 where
  pub number : ℕ
  pub chosen : ℤ → Bool
  pub some : 1 ≤ length (filter chosen (missing_keys s number))
  pub few : length (filter chosen (missing_keys s number)) ≤ n

-- Such rows are filled; or the batch is refused, with P19.
abbrev pub Fills : State → ℕ → Reply → Wrote → State → Type 0
Fills s n reply wrote t =
    (keys : Chosen s n) × ComesTo s (as_outcome (fill_keys s keys.number (filter keys.chosen (missing_keys s keys.number)))) reply wrote t

-- FILLED comes exactly where no new half is missing. Else between 1 and n rows of one table, any of those whose new half is missing, are filled, or the batch is refused with P19.
abbrev pub FillsSome : List ℕ → State → ℕ → Reply → Wrote → State → Type 0
FillsSome [] s n reply wrote t = ComesTo s (Ok (answered s Filled)) reply wrote t
FillsSome (number ∷ numbers) s n reply wrote t = Fills s n reply wrote t

abbrev pub FillStep : Option Refusal → State → ℕ → Reply → Wrote → State → Type 0
FillStep (Some refusal) s n reply wrote t = ComesTo s (Err (Refused refusal)) reply wrote t
FillStep None s n reply wrote t = FillsSome (unfilled_tables s) s n reply wrote t

-- Which rows a batch takes is free. All else is determined.
abbrev pub Comes : State → Event → Reply → Wrote → State → Type 0
Comes s (event.Said path reading) reply wrote t = ComesTo s (outcome_of s (event.Said path reading)) reply wrote t
Comes s (event.Start asked) reply wrote t = ComesTo s (outcome_of s (event.Start asked)) reply wrote t
Comes s (event.Fill n) reply wrote t = FillStep (may_not_fill s n) s n reply wrote t
Comes s event.Complete reply wrote t = ComesTo s (outcome_of s event.Complete) reply wrote t
Comes s event.Rollback reply wrote t = ComesTo s (outcome_of s event.Rollback) reply wrote t

-- The events that may be answered want of memory, which is the one free reply: statements and batches. Whether memory really was wanting isn't said.
abbrev pub may_want : Event → Bool
may_want (event.Said path reading) = true
may_want (event.Start asked) = false
may_want (event.Fill n) = true
may_want event.Complete = false
may_want event.Rollback = false

-- The reply is want of memory, and nothing changed.
abbrev pub FindsNoMemory : State → Event → Reply → Wrote → State → Type 0
FindsNoMemory s event reply wrote t = (may_want event ≡ true) × ComesTo s (Err no_memory) reply wrote t

-- ---- steps

-- From s the machine may give this reply to the event, write this, and go on to t.
abbrev pub Makes : State → Event → Reply → Wrote → State → Type 0
Makes s event reply wrote t = Comes s event reply wrote t ⊎ FindsNoMemory s event reply wrote t

abbrev pub Step : State → Event → Reply → State → Type 0
Step s event reply t = (wrote : Wrote) × Makes s event reply wrote t

-- The machine may give these replies to these events, one step after another, from s to t. The first entry has this number, and each next one the next.
abbrev pub Run : ℕ → State → List Entry → State → Type 0
Run number s [] t = t ≡ s
Run number s (entry ∷ entries) t = (entry.number ≡ number) × (middle : State) × Step s entry.event entry.reply middle × Run (number + 1) middle entries t

-- ---- the plain step

abbrev pub IsPlainStep : State → Event → State × Reply → Type 0
IsPlainStep s event r = (r.1 ≡ reply_to (outcome_of s event)) × (r.0 ≡ after_of s (outcome_of s event))

-- ---- one lane

-- A step as one lane takes it: a batch takes the least missing keys of the first table that has any.
abbrev pub LaneMakes : State → Event → Reply → Wrote → State → Type 0
LaneMakes s event reply wrote t = ComesTo s (outcome_of s event) reply wrote t ⊎ FindsNoMemory s event reply wrote t

abbrev pub LaneStep : State → Event → Reply → State → Type 0
LaneStep s event reply t = (wrote : Wrote) × LaneMakes s event reply wrote t

-- One lane may go from s to t by these entries, one step after another. The first entry has this number, and each next one the next.
abbrev pub LaneRun : ℕ → State → List Entry → State → Type 0
LaneRun number s [] t = t ≡ s
LaneRun number s (entry ∷ entries) t = (entry.number ≡ number) × (middle : State) × LaneStep s entry.event entry.reply middle × LaneRun (number + 1) middle entries t
