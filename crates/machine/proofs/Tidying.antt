-- Steps of tidying, and the commands that do them, by which steps are left.
use Rattle.std.proofs.Common.{◌≡◌, ℕ, Bool, true, false, [], Ok, Err, map, refl, if◌then◌else◌}
use Rattle.mig_lens.specs.declared.faults.Kind.{Kind}
use Rattle.mig_lens.specs.declared.faults.Kind.TheVariants as kind
use Rattle.mig_lens.specs.declared.faults.Refusal.TheVariants.{Unfinished}
use Rattle.machine.proofs.Outcomes.{Holds}
use Rattle.machine.specs.declared.events.Reply.{Reply}
use Rattle.machine.specs.declared.events.Reply.TheVariants.{Complete, Rollback}
use Rattle.machine.specs.declared.states.State.{State}
use Rattle.machine.specs.Done.{CommandOutcome, Done}
use Rattle.machine.specs.Migrate.{complete, finish, roll_back, rollback, stepped, table_without_loss, tidied, tidied_back}

-- The step that takes what was lost, with so many steps left then.
abbrev pub emptied : ℕ → Kind → State → State
emptied left k s = record s { left = left; kind = k; tables = map table_without_loss s.tables; lost_columns = [] }

-- The last step of completing.
abbrev pub ended : State → State
ended s = record s { left = 0; kind = kind.Nothing }

pub tidied_so : (s : State) (Q : Reply → State → Type 0) (two : Bool) → ((two ≡ true) → Q (Complete 2) (emptied 1 s.kind s)) → ((two ≡ false) → Q (Complete 3) (ended s)) →
    Q (if◌then◌else◌ {A = Done} two (stepped 2 (emptied 1 s.kind s)) (stepped 3 (ended s))).reply (if◌then◌else◌ {A = Done} two (stepped 2 (emptied 1 s.kind s)) (stepped 3 (ended s))).after
tidied_so s Q true first last = first refl
tidied_so s Q false first last = last refl

-- Completing, by whether steps are left.
abbrev pub completing : State → Kind → CommandOutcome
completing s k = elim k [
  | kind.Nothing ↦ finish s s.mode
  | kind.Complete ↦ Ok (tidied s)
  | kind.Rollback ↦ Err (Unfinished kind.Rollback)
]

pub completing_so : (s : State) (Q : Reply → State → Type 0) → (s.kind ≡ kind.Nothing → Holds Q (finish s s.mode)) → (s.kind ≡ kind.Complete → Q (tidied s).reply (tidied s).after) → Holds Q (complete s)
completing_so s Q finishing tidying = by_kind s.kind refl
  where
    by_kind : (k : Kind) → s.kind ≡ k → Holds Q (completing s k)
    by_kind kind.Nothing is = finishing is
    by_kind kind.Complete is = tidying is
    by_kind kind.Rollback is = tt

-- Rolling back, by whether a step is left.
abbrev pub rolling_back : State → Kind → CommandOutcome
rolling_back s k = elim k [
  | kind.Nothing ↦ roll_back s s.mode
  | kind.Complete ↦ Err (Unfinished kind.Complete)
  | kind.Rollback ↦ Ok (tidied_back s)
]

pub rolling_back_so : (s : State) (Q : Reply → State → Type 0) → (s.kind ≡ kind.Nothing → Holds Q (roll_back s s.mode)) →
    (s.kind ≡ kind.Rollback → Q (Rollback 2) (emptied 0 kind.Nothing s)) → Holds Q (rollback s)
rolling_back_so s Q going tidying = by_kind s.kind refl
  where
    by_kind : (k : Kind) → s.kind ≡ k → Holds Q (rolling_back s k)
    by_kind kind.Nothing is = going is
    by_kind kind.Complete is = tt
    by_kind kind.Rollback is = tidying is
