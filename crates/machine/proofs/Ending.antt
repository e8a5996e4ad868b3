-- A step of completing or of rolling back that isn't the last leaves fewer steps.
use Rattle.std.proofs.Common.{◌≡◌, inl, inr, ℕ, ◌<◌, ◌≤◌, ◌==◌, Bool, true, false, cond, ◌∙◌, ap, refl, arith}
use Rattle.mig_lens.specs.declared.faults.Kind.{Kind}
use Rattle.mig_lens.specs.declared.faults.Kind.TheVariants as kind
use Rattle.machine.specs.declared.events.Reply.{Reply}
use Rattle.machine.specs.declared.events.Reply.TheVariants as reply
use Rattle.machine.specs.declared.states.Mode.{Mode}
use Rattle.machine.specs.declared.states.Mode.TheVariants.{Calm, Both}
use Rattle.machine.specs.declared.states.State.{State}
use Rattle.machine.specs.Follows.{goes_on_completing, goes_on_rolling_back}
use Rattle.machine.specs.Laws.{StepsAreFew, StepsBackAreFew, StepsBackLeaveFewer, StepsLeaveFewer, steps_back_due, steps_back_of, steps_due, steps_of}
use Rattle.machine.specs.Migrate.{by_completing, by_rolling_back, complete, finish, may_not_complete, roll_back, rollback, standing_alone, stepped, tidied}
use Rattle.machine.proofs.Outcomes.{Holds, command_so, holds_without}
use Rattle.machine.proofs.Tidying.{completing_so, emptied, rolling_back_so, tidied_so}

-- Where the reply says that completing goes on, fewer steps are due.
abbrev Fewer : State → Reply → State → Type 0
Fewer s answer t = goes_on_completing answer ≡ true → steps_due t < steps_due s

tidied_fewer : (s : State) → s.kind ≡ kind.Complete → Fewer s (tidied s).reply (tidied s).after
tidied_fewer s is = tidied_so s (Fewer s) (s.left == 2) next (λ last goes. cc)
  where
    next : (s.left == 2) ≡ true → Fewer s (reply.Complete 2) (emptied 1 s.kind s)
    next two goes =
        let after : steps_due (emptied 1 s.kind s) ≡ 1 = ap (λ k. steps_of k 1) is in
        let before : steps_due s ≡ 2 = ap (λ k. steps_of k s.left) is ∙ ap (λ (b : Bool). cond b 2 1) two in
        omega (arith, after, before)

finished_fewer : (s : State) (mode : Mode) → s.kind ≡ kind.Nothing → Holds (Fewer s) (finish s mode)
finished_fewer s Calm is = tt
finished_fewer s (Both name schema fates) is = holds_without (Fewer s) (may_not_complete s) (stepped 1 (standing_alone by_completing name schema fates s)) (λ none goes. fewer)
  where
    fewer : 2 < steps_due s
    fewer = let before : steps_due s ≡ 3 = ap (λ k. steps_of k s.left) is in omega (arith, before)

pub steps_leave_fewer : StepsLeaveFewer
steps_leave_fewer s answer t (wrote, inl c) = command_so s (Fewer s) (complete s) answer wrote t (λ refusal goes. cc) (completing_so s (Fewer s) (finished_fewer s s.mode) (tidied_fewer s)) c
steps_leave_fewer s answer t (wrote, inr c) = cc (c.0)

steps_least : (s : State) → 1 ≤ steps_due s
steps_least s = by_kind s.kind s.left
  where
    one_least : (b : Bool) → 1 ≤ cond b 2 1
    one_least true = omega arith
    one_least false = omega arith

    by_kind : (k : Kind) (left : ℕ) → 1 ≤ steps_of k left
    by_kind kind.Nothing left = omega arith
    by_kind kind.Complete left = one_least (left == 2)
    by_kind kind.Rollback left = omega arith

steps_most : (s : State) → steps_due s ≤ 3
steps_most s = by_kind s.kind s.left
  where
    two_most : (b : Bool) → cond b 2 1 ≤ 3
    two_most true = omega arith
    two_most false = omega arith

    by_kind : (k : Kind) (left : ℕ) → steps_of k left ≤ 3
    by_kind kind.Nothing left = omega arith
    by_kind kind.Complete left = two_most (left == 2)
    by_kind kind.Rollback left = omega arith

pub steps_are_few : StepsAreFew
steps_are_few s = (steps_least s, steps_most s)

-- ---- rolling back

-- Where the reply says that rolling back goes on, fewer steps are due.
abbrev FewerBack : State → Reply → State → Type 0
FewerBack s answer t = goes_on_rolling_back answer ≡ true → steps_back_due t < steps_back_due s

rolled_back_fewer : (s : State) (mode : Mode) → s.kind ≡ kind.Nothing → Holds (FewerBack s) (roll_back s mode)
rolled_back_fewer s Calm is = tt
rolled_back_fewer s (Both name schema fates) is = λ goes.
    let before : steps_back_due s ≡ 2 = ap steps_back_of is in
    let after : steps_back_due (standing_alone by_rolling_back s.version s.schema fates s) ≡ 1 = refl in
    omega (arith, before, after)

pub steps_back_leave_fewer : StepsBackLeaveFewer
steps_back_leave_fewer s answer t (wrote, inl c) =
    command_so s (FewerBack s) (rollback s) answer wrote t (λ refusal goes. cc) (rolling_back_so s (FewerBack s) (rolled_back_fewer s s.mode) (λ is goes. cc)) c
steps_back_leave_fewer s answer t (wrote, inr c) = cc (c.0)

pub steps_back_are_few : StepsBackAreFew
steps_back_are_few s = by_kind s.kind
  where
    by_kind : (k : Kind) → (1 ≤ steps_back_of k) × (steps_back_of k ≤ 2)
    by_kind kind.Nothing = (omega arith, omega arith)
    by_kind kind.Complete = (omega arith, omega arith)
    by_kind kind.Rollback = (omega arith, omega arith)
