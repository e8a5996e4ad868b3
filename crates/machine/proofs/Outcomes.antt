-- What holds of every accepted event, and of a state that nothing changed, holds of every step.
use Rattle.std.proofs.Common.{◌≡◌, inl, inr, ℕ, ℤ, List, [], ◌∷◌, Bool, Option, Some, None, Result, Ok, Err, refl, sym, subst, filter, length, ◌≤◌}
use Rattle.sql_base.specs.Outcome.{and_then}
use Rattle.row_rules.specs.Outcome.{guarded, without}
use Rattle.machine.specs.declared.events.Asked.{Asked}
use Rattle.machine.specs.declared.events.Event.{Event}
use Rattle.machine.specs.declared.events.Event.TheVariants as event
use Rattle.machine.specs.declared.events.Reading.{Reading}
use Rattle.machine.specs.declared.events.Reply.{Reply}
use Rattle.machine.specs.declared.events.Reply.TheVariants.{Filled, Refused}
use Rattle.machine.specs.declared.states.State.{State}
use Rattle.mig_lens.specs.declared.faults.Refusal.{Refusal}
use Rattle.machine.specs.Done.{CommandOutcome, Done, Outcome, Wrote, as_outcome}
use Rattle.machine.specs.Migrate.{complete, fill_keys, may_not_fill, rollback, start, unfilled_tables}
use Rattle.machine.specs.Standing.{IsState}
use Rattle.machine.specs.State.{missing_keys}
use Rattle.machine.specs.Statement.{no_memory}
use Rattle.machine.specs.Step.{ComesTo, FillStep, FillsSome, Step, line_outcome}

-- The state afterwards stands.
abbrev pub Stands : Reply → State → Type 0
Stands reply t = IsState t

-- It holds of what was accepted, if it was.
abbrev pub Holds : {E : Type 0} → (Reply → State → Type 0) → Result Done E → Type 0
Holds Q (Ok done) = Q done.reply done.after
Holds Q (Err fault) = Unit {0}

pub holds_then : {T E : Type 0} (Q : Reply → State → Type 0) (r : Result T E) (next : T → Result Done E) → ((x : T) → r ≡ Ok x → Holds Q (next x)) → Holds Q (and_then r next)
holds_then Q (Ok x) next h = h x refl
holds_then Q (Err fault) next h = tt

pub holds_guarded : {E : Type 0} (Q : Reply → State → Type 0) (fault : Option E) (next : Result Done E) → (fault ≡ None → Holds Q next) → Holds Q (guarded fault next)
holds_guarded Q None next h = h refl
holds_guarded Q (Some fault) next h = tt

pub holds_without : {E : Type 0} (Q : Reply → State → Type 0) (fault : Option E) (done : Done) → (fault ≡ None → Q done.reply done.after) → Holds Q (without fault done)
holds_without Q None done h = h refl
holds_without Q (Some fault) done h = tt

-- ---- what comes of an outcome

pub outcome_so : (s : State) (Q : Reply → State → Type 0) (outcome : Outcome) (reply : Reply) (wrote : Wrote) (t : State) → ((refused : Reply) → outcome ≡ Err refused → Q refused s) → Holds Q outcome → ComesTo s outcome reply wrote t → Q reply t
outcome_so s Q (Ok done) reply wrote t still h c = subst (λ r. Q r t) (sym c.0) (subst (Q done.reply) (sym c.2) h)
outcome_so s Q (Err refused) reply wrote t still h c = subst (λ r. Q r t) (sym c.0) (subst (Q refused) (sym c.2) (still refused refl))

pub command_so : (s : State) (Q : Reply → State → Type 0) (command : CommandOutcome) (reply : Reply) (wrote : Wrote) (t : State) → ((refusal : Refusal) → Q (Refused refusal) s) → Holds Q command → ComesTo s (as_outcome command) reply wrote t → Q reply t
command_so s Q (Ok done) reply wrote t still h c = subst (λ r. Q r t) (sym c.0) (subst (Q done.reply) (sym c.2) h)
command_so s Q (Err refusal) reply wrote t still h c = subst (λ r. Q r t) (sym c.0) (subst (Q (Refused refusal)) (sym c.2) (still refusal))

-- ---- batches

-- It holds of every batch of chosen keys, of FILLED and of refusals.
pub record Batches (s : State) (Q : Reply → State → Type 0) : Type 0 where
  pub refused : (refusal : Refusal) → Q (Refused refusal) s
  pub filled : Q Filled s
  pub some : (number : ℕ) (chosen : ℤ → Bool) → 1 ≤ length (filter chosen (missing_keys s number)) → Holds Q (fill_keys s number (filter chosen (missing_keys s number)))

fills_so : (s : State) (Q : Reply → State → Type 0) → Batches s Q → (n : ℕ) (numbers : List ℕ) (reply : Reply) (wrote : Wrote) (t : State) → FillsSome numbers s n reply wrote t → Q reply t
fills_so s Q b n [] reply wrote t c = subst (λ r. Q r t) (sym c.0) (subst (Q Filled) (sym c.2) b.filled)
fills_so s Q b n (number ∷ numbers) reply wrote t (keys, c) =
    command_so s Q (fill_keys s keys.number (filter keys.chosen (missing_keys s keys.number))) reply wrote t b.refused (b.some keys.number keys.chosen keys.some) c

fill_so : (s : State) (Q : Reply → State → Type 0) → Batches s Q → (n : ℕ) (refusal : Option Refusal) (reply : Reply) (wrote : Wrote) (t : State) → FillStep refusal s n reply wrote t → Q reply t
fill_so s Q b n None reply wrote t c = fills_so s Q b n (unfilled_tables s) reply wrote t c
fill_so s Q b n (Some refusal) reply wrote t c = subst (λ r. Q r t) (sym c.0) (subst (Q (Refused refusal)) (sym c.2) (b.refused refusal))

pub batch_so : (s : State) (Q : Reply → State → Type 0) → Batches s Q → Q no_memory s → (n : ℕ) (reply : Reply) (t : State) → Step s (event.Fill n) reply t → Q reply t
batch_so s Q b none n reply t (wrote, inl c) = fill_so s Q b n (may_not_fill s n) reply wrote t c
batch_so s Q b none n reply t (wrote, inr c) = subst (λ r. Q r t) (sym c.1.0) (subst (Q no_memory) (sym c.1.2) none)

-- ---- steps

-- It holds of lines and commands, whatever they are.
pub record Events (s : State) (Q : Reply → State → Type 0) : Type 0 where
  pub refused : (reply : Reply) → Q reply s
  pub line : (path : List (List ℕ)) (reading : Reading) → Holds Q (line_outcome s path reading)
  pub start : (asked : Asked) → Holds Q (start s asked)
  pub some : (number : ℕ) (chosen : ℤ → Bool) → 1 ≤ length (filter chosen (missing_keys s number)) → Holds Q (fill_keys s number (filter chosen (missing_keys s number)))
  pub complete : Holds Q (complete s)
  pub rollback : Holds Q (rollback s)

pub step_so : (s : State) (Q : Reply → State → Type 0) → Events s Q → (what : Event) (reply : Reply) (t : State) → Step s what reply t → Q reply t
step_so s Q e (event.Said path reading) reply t (wrote, inl c) = outcome_so s Q (line_outcome s path reading) reply wrote t (λ refused _. e.refused refused) (e.line path reading) c
step_so s Q e (event.Said path reading) reply t (wrote, inr c) = subst (λ r. Q r t) (sym c.1.0) (subst (Q no_memory) (sym c.1.2) (e.refused no_memory))
step_so s Q e (event.Start asked) reply t (wrote, inl c) = command_so s Q (start s asked) reply wrote t (λ refusal. e.refused (Refused refusal)) (e.start asked) c
step_so s Q e (event.Start asked) reply t (wrote, inr c) = cc (c.0)
step_so s Q e (event.Fill n) reply t step = batch_so s Q (record { refused = λ refusal. e.refused (Refused refusal); filled = e.refused Filled; some = e.some }) (e.refused no_memory) n reply t step
step_so s Q e event.Complete reply t (wrote, inl c) = command_so s Q (complete s) reply wrote t (λ refusal. e.refused (Refused refusal)) e.complete c
step_so s Q e event.Complete reply t (wrote, inr c) = cc (c.0)
step_so s Q e event.Rollback reply t (wrote, inl c) = command_so s Q (rollback s) reply wrote t (λ refusal. e.refused (Refused refusal)) e.rollback c
step_so s Q e event.Rollback reply t (wrote, inr c) = cc (c.0)
