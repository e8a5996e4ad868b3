-- How a reply and a state follow from an outcome, step by step.
use Rattle.std.proofs.Common.{◌≡◌, ◌∙◌, Result, Ok, Err, refl, sym, subst, ap}
use Rattle.sql_base.specs.Outcome.{and_then}
use Rattle.row_rules.specs.Outcome.{Answers, map_fault}
use Rattle.row_rules.specs.declared.stops.Stop.{Stop}
use Rattle.row_rules.specs.declared.stops.Stop.TheVariants.{Because, NoMemory}
use Rattle.machine.specs.declared.events.Reply.{Reply}
use Rattle.machine.specs.declared.states.State.{State}
use Rattle.machine.specs.Done.{CommandOutcome, Done, Outcome, after_of, as_outcome, reply_to}
use Rattle.machine.specs.Plain.{replied, with_refusal}
use Rattle.machine.specs.Statement.{Begun, finished}
use Rattle.machine.specs.Words.{Refusal}

-- After a step that has its value comes the next one.
pub answers_next : {T E F : Type 0} (wanted : Result T F) (of : F → E) (next : T → Result Done E) (value : T) (result : Result (Reply × State) (Stop E)) → wanted ≡ Ok value → Answers (replied (next value)) result → Answers (replied (and_then (map_fault of wanted) next)) result
answers_next wanted of next value result e h = subst (λ wanted. Answers (replied (and_then (map_fault of wanted) next)) result) (sym e) h

-- The reply and the state of an outcome.
abbrev reply_in : Result (Reply × State) Reply → Reply
reply_in (Ok done) = done.0
reply_in (Err reply) = reply

abbrev state_in : State → Result (Reply × State) Reply → State
state_in s (Ok done) = done.1
state_in s (Err reply) = s

reply_of : (o : Outcome) → reply_in (replied o) ≡ reply_to o
reply_of (Ok done) = refl
reply_of (Err reply) = refl

state_of : (s : State) (o : Outcome) → state_in s (replied o) ≡ after_of s o
state_of s (Ok done) = refl
state_of s (Err reply) = refl

-- What was replied, and the state afterwards, are those of the outcome.
pub replied_done : (s : State) (o : Outcome) (reply : Reply) (t : State) → replied o ≡ Ok (reply, t) → (reply ≡ reply_to o) × (t ≡ after_of s o)
replied_done s o reply t e = (ap reply_in (sym e) ∙ reply_of o, ap (state_in s) (sym e) ∙ state_of s o)

pub replied_refused : (s : State) (o : Outcome) (reply : Reply) → replied o ≡ Err reply → (reply ≡ reply_to o) × (s ≡ after_of s o)
replied_refused s o reply e = (ap reply_in (sym e) ∙ reply_of o, ap (state_in s) (sym e) ∙ state_of s o)

-- A command's outcome, with its refusal as the reply.
pub answers_refusal : (o : CommandOutcome) (result : Result (Reply × State) (Stop Refusal)) → Answers (replied o) result → Answers (replied (as_outcome o)) (with_refusal result)
answers_refusal (Ok done) (Ok value) h = cc
answers_refusal (Ok done) (Err (Because refusal)) h = cc
answers_refusal (Ok done) (Err NoMemory) h = tt
answers_refusal (Err fault) (Ok value) h = cc
answers_refusal (Err fault) (Err (Because refusal)) h = cc
answers_refusal (Err fault) (Err NoMemory) h = tt

-- What comes after a begin.
pub answers_finished : (s : State) (wanted : Result Begun Reply) (begun : Begun) (result : Result (Reply × State) (Stop Reply)) → wanted ≡ Ok begun → Answers (replied (finished s begun)) result → Answers (replied (and_then wanted (finished s))) result
answers_finished s wanted begun result e h = subst (λ wanted. Answers (replied (and_then wanted (finished s))) result) (sym e) h
