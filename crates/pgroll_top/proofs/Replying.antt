-- What is answered to a line that is said.
use Rattle.std.proofs.Common.{◌≡◌, ◌∙◌, ℕ, List, Err, ap, refl, sym, inl, inr}
use Rattle.machine.specs.Done.{Nothing, after_of, reply_to, wrote_by}
use Rattle.machine.specs.declared.events.Event.TheVariants.{Said}
use Rattle.machine.specs.declared.events.Reading.{Reading}
use Rattle.machine.specs.declared.events.Reply.{Reply}
use Rattle.machine.specs.declared.states.State.{State}
use Rattle.machine.specs.Statement.{no_memory}
use Rattle.machine.specs.Step.{Step, line_outcome}
use Rattle.pgroll_top.specs.Parts.{IsOrNoMemory}

-- want of memory
pub finds_none : (s : State) (path : List (List ℕ)) (reading : Reading) (answer : Reply) → answer ≡ no_memory → Step s (Said path reading) answer s
finds_none s path reading answer is = (Nothing, inr (refl, (is, refl, refl)))

-- a line that is no statement
pub line_refused : (s : State) (path : List (List ℕ)) (reading : Reading) (refusal answer : Reply) → line_outcome s path reading ≡ Err refusal → answer ≡ refusal → Step s (Said path reading) answer s
line_refused s path reading refusal answer comes is = (Nothing, inl (is ∙ ap reply_to (sym comes), ap wrote_by (sym comes), ap (after_of s) (sym comes)))

-- the same, or want of memory
pub line_refused_or_not : (s : State) (path : List (List ℕ)) (reading : Reading) (refusal answer : Reply) → line_outcome s path reading ≡ Err refusal → IsOrNoMemory refusal answer → Step s (Said path reading) answer s
line_refused_or_not s path reading refusal answer comes (inl is) = line_refused s path reading refusal answer comes is
line_refused_or_not s path reading refusal answer comes (inr is) = finds_none s path reading answer is
