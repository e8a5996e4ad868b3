-- Every step from a state that stands leads to one, and so every run does that begins as the program does.
use Rattle.std.proofs.Common.{◌≡◌, ℕ, ◌+◌, List, [], ◌∷◌, Bool, true, false, ◌==◌, Some, None, refl, sym, subst, if◌then◌else◌, filter, arith, codes, option_map}
use Rattle.sql_base.specs.declared.shapes.Shape.{Shape}
use Rattle.sql_eval.specs.Shape.{WellFormed}
use Rattle.mig_lens.specs.Laws.{IsSchema}
use Rattle.mig_lens.specs.Plan.{Table}
use Rattle.machine.specs.Below.{Below}
use Rattle.machine.proofs.Completing.{completed_stands}
use Rattle.machine.proofs.Filling.{filled_stands}
use Rattle.machine.proofs.Lines.{line_stands}
use Rattle.machine.proofs.Outcomes.{Events, Stands, step_so}
use Rattle.machine.proofs.RollingBack.{rolled_back_stands}
use Rattle.machine.proofs.Starting.{started_stands}
use Rattle.machine.specs.Migrate.{numbers_of}
use Rattle.machine.specs.Step.{Run}
use Rattle.machine.specs.declared.events.Entry.{Entry}
use Rattle.machine.specs.declared.states.State.{State}
use Rattle.machine.specs.State.{beginning, missing_keys, users}
use Rattle.machine.specs.Laws.{RunsReachStates, StepsKeepStates}
use Rattle.machine.specs.Standing.{IsState, VersionStands}

-- ---- one step

stay : (s : State) → Below → IsState s → Events s Stands
stay s below stands =
    record {
      refused = λ reply. stands;
      line = λ path reading. line_stands below s path reading stands;
      start = λ asked. started_stands below s asked stands;
      some = λ number chosen _. filled_stands below s number (filter chosen (missing_keys s number)) stands;
      complete = completed_stands s stands;
      rollback = rolled_back_stands s stands;
    }

pub steps_keep_states : Below → StepsKeepStates
steps_keep_states below s what reply t step stands = step_so s Stands (stay s below stands) what reply t step

-- ---- the beginning

users_are_well_formed : WellFormed users
users_are_well_formed = record { few = omega arith; different = refl; key = refl; uniques = refl; defaults = refl; checks = refl }

beginning_schema : IsSchema beginning.schema
beginning_schema = record { names = refl; numbers = refl; shapes = λ number shape e. by_test number shape (1 == number) e }
  where
    by_test : (number : ℕ) (shape : Shape) (b : Bool) → option_map {T = Table} (λ table. table.2) (if b then Some (codes "users", 1, users) else None) ≡ Some shape → WellFormed shape
    by_test number shape true e = let is : users ≡ shape = cc in subst WellFormed is users_are_well_formed
    by_test number shape false e = cc

beginning_version : VersionStands beginning.schema (numbers_of beginning) beginning.next_table
beginning_version = record { schema_stands = beginning_schema; rows = refl; below = (omega arith, tt) }

pub beginning_stands : IsState beginning
beginning_stands = record { steps = refl; version = beginning_version; mode = tt; numbers = tt; known = refl; tables = (tt, tt, tt); few = omega arith; lost = λ none. record { columns = refl; rows = (tt, tt) } }

-- ---- runs

runs_from : Below → (number : ℕ) (s : State) (history : List Entry) (t : State) → IsState s → Run number s history t → IsState t
runs_from below number s [] t stands h = subst IsState (sym h) stands
runs_from below number s (entry ∷ history) t stands (here, middle, step, rest) = runs_from below (number + 1) middle history t (steps_keep_states below s entry.event entry.reply middle step stands) rest

pub runs_reach_states : Below → RunsReachStates
runs_reach_states below number history t h = runs_from below number beginning history t beginning_stands h
