-- What an event comes to: its reply, the state after it, and what was written.
use Rattle.std.specs.Prelude.{ℕ, ℤ, List, [], ◌∷◌, Result, Ok, Err}
use Rattle.machine.specs.Words.{Migration, Refusal, Refused, Reply, State}

-- What was written: nothing; rows of the table of a number, by their keys, as written; a migration, which was started; or a step of completing or of rolling back.
pub data Wrote : Type 0 where
  Nothing : Wrote
  Rows : ℕ → List ℤ → Wrote
  Started : Migration → Wrote
  Stepped : ℕ → Wrote

-- A statement or a batch that wrote or removed no row wrote nothing.
abbrev pub wrote_rows : ℕ → List ℤ → Wrote
wrote_rows number [] = Nothing
wrote_rows number (key ∷ keys) = Rows number (key ∷ keys)

-- An accepted event.
pub record Done : Type 0 where
  pub reply : Reply
  pub after : State
  pub wrote : Wrote

-- A refused event has only its reply: it leaves the state as it was, and writes nothing.
abbrev pub Outcome : Type 0
Outcome = Result Done Reply

abbrev pub reply_to : Outcome → Reply
reply_to (Ok done) = done.reply
reply_to (Err reply) = reply

abbrev pub after_of : State → Outcome → State
after_of s (Ok done) = done.after
after_of s (Err reply) = s

abbrev pub wrote_by : Outcome → Wrote
wrote_by (Ok done) = done.wrote
wrote_by (Err reply) = Nothing

-- An accepted event that changes nothing.
abbrev pub answered : State → Reply → Done
answered s reply = record { reply = reply; after = s; wrote = Nothing }

-- A command that is refused is answered its refusal.
abbrev pub CommandOutcome : Type 0
CommandOutcome = Result Done Refusal

abbrev pub as_outcome : CommandOutcome → Outcome
as_outcome (Ok done) = Ok done
as_outcome (Err refusal) = Err (Refused refusal)
