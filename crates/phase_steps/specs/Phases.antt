-- Which commands of a migration may come in a phase, and which step each of them takes next.
--
-- That at most one migration is active, and that it is completed or rolled back: pgroll's documentation. The steps, which of them may come when, and the order of the refusals are our own.
use Rattle.std.specs.Prelude.{ℕ, List, ◌==◌, Option, Some, None, is_some, if◌then◌else◌}
use Rattle.std.specs.Option.{option_copied, option_map, option_or}
use Rattle.std.specs.Str.{bytes_eq}
use Rattle.mig_lens.specs.declared.faults.Kind.{Kind}
use Rattle.mig_lens.specs.declared.faults.Kind.TheVariants as kind
use Rattle.mig_lens.specs.declared.faults.Refusal.{Refusal}
use Rattle.mig_lens.specs.declared.faults.Refusal.TheVariants.{AlreadyActive, NameTaken, NoActive, Unfinished}
use Rattle.phase_steps.specs.declared.phases.Cmd.{Cmd}
use Rattle.phase_steps.specs.declared.phases.Cmd.TheVariants.{Start, Complete, Rollback, Batch, Status}
use Rattle.phase_steps.specs.declared.phases.Phase.{Phase}
use Rattle.phase_steps.specs.declared.phases.PhaseRef.{PhaseRef}

-- The phase that is lent to a call.
abbrev pub phase_lent : PhaseRef → Phase
phase_lent lent = record { version = lent.version.now; active = option_copied lent.active; left = lent.left; kind = lent.kind }

-- ---- refusals

-- P3: steps of tidying are left, of this kind.
abbrev pub unfinished : Kind → Option Refusal
unfinished kind.Nothing = None
unfinished kind.Complete = Some (Unfinished kind.Complete)
unfinished kind.Rollback = Some (Unfinished kind.Rollback)

-- P1: a migration of this name is active.
abbrev pub already : Option (List ℕ) → Option Refusal
already active = option_map AlreadyActive active

-- P2: none is.
abbrev pub inactive : Option (List ℕ) → Option Refusal
inactive active = if is_some active then None else Some NoActive

-- P6: the current version has the migration's name.
abbrev pub taken : List ℕ → List ℕ → Option Refusal
taken version name = if bytes_eq name version then Some (NameTaken name) else None

-- ---- which commands may come

-- Why a migration of this name can't be started: P3, then P1, then P6.
abbrev pub may_start : List ℕ → Phase → Option Refusal
may_start name phase = option_or (unfinished phase.kind) (option_or (already phase.active) (taken phase.version name))

-- Why no batch can be filled: P3, then P2.
abbrev pub may_fill : Phase → Option Refusal
may_fill phase = option_or (unfinished phase.kind) (inactive phase.active)

-- Why no step of completing can come: P3, where steps of rolling back are left; then P2, where none of completing are left either.
abbrev pub may_complete : Phase → Option Refusal
may_complete phase = elim phase.kind [
  | kind.Nothing ↦ inactive phase.active
  | kind.Complete ↦ None
  | kind.Rollback ↦ Some (Unfinished kind.Rollback)
]

-- The same of rolling back.
abbrev pub may_roll_back : Phase → Option Refusal
may_roll_back phase = elim phase.kind [
  | kind.Nothing ↦ inactive phase.active
  | kind.Complete ↦ Some (Unfinished kind.Complete)
  | kind.Rollback ↦ None
]

abbrev pub may : Cmd → Phase → Option Refusal
may (Start m) phase = may_start m.name phase
may Complete phase = may_complete phase
may Rollback phase = may_roll_back phase
may (Batch n) phase = may_fill phase
may Status phase = None

-- ---- which step comes next

-- The steps by their numbers: C1, C2 and C3 of completing are 1, 2 and 3, and B1 and B2 of rolling back are 4 and 5.
abbrev pub next_completing : Phase → Option ℕ
next_completing phase = elim phase.kind [
  | kind.Nothing ↦ option_map (λ name. 1) phase.active
  | kind.Complete ↦ Some (if phase.left == 2 then 2 else 3)
  | kind.Rollback ↦ None
]

abbrev pub next_rolling_back : Phase → Option ℕ
next_rolling_back phase = elim phase.kind [
  | kind.Nothing ↦ option_map (λ name. 4) phase.active
  | kind.Complete ↦ None
  | kind.Rollback ↦ Some 5
]

-- The step that a command takes, where nothing stands against it in the rows; none, where it takes none.
abbrev pub next_step : Cmd → Phase → Option ℕ
next_step (Start m) phase = None
next_step Complete phase = next_completing phase
next_step Rollback phase = next_rolling_back phase
next_step (Batch n) phase = None
next_step Status phase = None
