-- How far a migration has come says which step of completing or of rolling back comes next.
use Rattle.std.proofs.Common.{◌≡◌, Bool, true, false, ◌==◌, Some, None, Ok, Err, ◌∙◌, ap, refl, option_map, if◌then◌else◌}
use Rattle.sql_base.specs.Laws.{ok_same}
use Rattle.mig_lens.specs.declared.faults.Kind.{Kind}
use Rattle.mig_lens.specs.declared.faults.Kind.TheVariants as kind
use Rattle.mig_lens.specs.declared.faults.Refusal.{Refusal}
use Rattle.phase_steps.specs.declared.phases.Phase.{Phase}
use Rattle.phase_steps.specs.Phases.{inactive, may_complete, may_roll_back, next_completing, next_rolling_back}
use Rattle.machine.specs.declared.states.Mode.{Mode}
use Rattle.machine.specs.declared.states.Mode.TheVariants.{Calm, Both}
use Rattle.machine.specs.declared.states.State.{State}
use Rattle.machine.specs.Done.{Done, Stepped}
use Rattle.machine.specs.Laws.{PhasesSaySteps, RollingBackIsDone}
use Rattle.machine.specs.Migrate.{active_name, by_completing, by_rolling_back, complete, finish, may_not_complete, phase_of, roll_back, rollback, standing_alone, stepped, stepped_back, tidied, tidied_back}
use Rattle.machine.proofs.Accepting.{without_ok}
use Rattle.machine.proofs.Tidying.{completing, emptied, ended, rolling_back}

-- The phase of a state, if the steps that are left were of this kind.
abbrev phase_as : State → Kind → Phase
phase_as s k = record { version = s.version; active = active_name s.mode; left = s.left; kind = k }

-- ---- completing

complete_refused : (s : State) (refusal : Refusal) → may_complete (phase_of s) ≡ Some refusal → complete s ≡ Err refusal
complete_refused s refusal = by_kind s.kind
  where
    by_mode : (mode : Mode) → inactive (active_name mode) ≡ Some refusal → finish s mode ≡ Err refusal
    by_mode Calm h = cc
    by_mode (Both name schema fates) h = cc

    by_kind : (k : Kind) → may_complete (phase_as s k) ≡ Some refusal → completing s k ≡ Err refusal
    by_kind kind.Nothing h = by_mode s.mode h
    by_kind kind.Complete h = cc
    by_kind kind.Rollback h = cc

tidied_wrote : (s : State) (two : Bool) →
    Some (Stepped (if two then 2 else 3)) ≡ Some (if◌then◌else◌ {A = Done} two (stepped 2 (emptied 1 s.kind s)) (stepped 3 (ended s))).wrote
tidied_wrote s true = refl
tidied_wrote s false = refl

complete_done : (s : State) (done : Done) → complete s ≡ Ok done → option_map Stepped (next_completing (phase_of s)) ≡ Some done.wrote
complete_done s done = by_kind s.kind
  where
    by_mode : (mode : Mode) → finish s mode ≡ Ok done → option_map Stepped (option_map (λ name. 1) (active_name mode)) ≡ Some done.wrote
    by_mode Calm h = cc
    by_mode (Both name schema fates) h =
        let is = without_ok (may_not_complete s) (stepped 1 (standing_alone by_completing name schema fates s)) done h in
        ap (λ (done : Done). Some done.wrote) is.1

    by_kind : (k : Kind) → completing s k ≡ Ok done → option_map Stepped (next_completing (phase_as s k)) ≡ Some done.wrote
    by_kind kind.Nothing h = by_mode s.mode h
    by_kind kind.Complete h = tidied_wrote s (s.left == 2) ∙ ap (λ (done : Done). Some done.wrote) (ok_same (tidied s) done h)
    by_kind kind.Rollback h = cc

-- ---- rolling back

rollback_refused : (s : State) (refusal : Refusal) → may_roll_back (phase_of s) ≡ Some refusal → rollback s ≡ Err refusal
rollback_refused s refusal = by_kind s.kind
  where
    by_mode : (mode : Mode) → inactive (active_name mode) ≡ Some refusal → roll_back s mode ≡ Err refusal
    by_mode Calm h = cc
    by_mode (Both name schema fates) h = cc

    by_kind : (k : Kind) → may_roll_back (phase_as s k) ≡ Some refusal → rolling_back s k ≡ Err refusal
    by_kind kind.Nothing h = by_mode s.mode h
    by_kind kind.Complete h = cc
    by_kind kind.Rollback h = cc

rollback_done : (s : State) (done : Done) → rollback s ≡ Ok done → option_map Stepped (next_rolling_back (phase_of s)) ≡ Some done.wrote
rollback_done s done = by_kind s.kind
  where
    by_mode : (mode : Mode) → roll_back s mode ≡ Ok done → option_map Stepped (option_map (λ name. 4) (active_name mode)) ≡ Some done.wrote
    by_mode Calm h = cc
    by_mode (Both name schema fates) h =
        ap (λ (done : Done). Some done.wrote) (ok_same (stepped_back 1 (standing_alone by_rolling_back s.version s.schema fates s)) done h)

    by_kind : (k : Kind) → rolling_back s k ≡ Ok done → option_map Stepped (next_rolling_back (phase_as s k)) ≡ Some done.wrote
    by_kind kind.Nothing h = by_mode s.mode h
    by_kind kind.Complete h = cc
    by_kind kind.Rollback h = ap (λ (done : Done). Some done.wrote) (ok_same (tidied_back s) done h)

-- ---- the laws

pub phases_say_steps : PhasesSaySteps
phases_say_steps s = (
  record { refused = complete_refused s; done = complete_done s },
  record { refused = rollback_refused s; done = rollback_done s },
)

pub rolling_back_is_done : RollingBackIsDone
rolling_back_is_done s = by_kind s.kind
  where
    by_mode : (mode : Mode) → inactive (active_name mode) ≡ None → (done : Done) × (roll_back s mode ≡ Ok done)
    by_mode Calm h = cc
    by_mode (Both name schema fates) h = (stepped_back 1 (standing_alone by_rolling_back s.version s.schema fates s), refl)

    by_kind : (k : Kind) → may_roll_back (phase_as s k) ≡ None → (done : Done) × (rolling_back s k ≡ Ok done)
    by_kind kind.Nothing h = by_mode s.mode h
    by_kind kind.Complete h = cc
    by_kind kind.Rollback h = (tidied_back s, refl)
