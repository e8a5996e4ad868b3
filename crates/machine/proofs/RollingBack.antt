-- Rolling back leads from a state that stands to one.
use Rattle.std.proofs.Common.{◌≡◌, ◌∙◌, ℕ, List, refl, sym}
use Rattle.mig_lens.specs.declared.faults.Kind.TheVariants as kind
use Rattle.mig_lens.specs.declared.plans.Fate.{Fate}
use Rattle.machine.specs.declared.states.Mode.{Mode}
use Rattle.machine.specs.declared.states.Mode.TheVariants.{Calm, Both}
use Rattle.machine.specs.declared.states.State.{State}
use Rattle.machine.specs.Migrate.{by_rolling_back, roll_back, rollback, standing_alone}
use Rattle.machine.specs.Standing.{IsState, RowStands}
use Rattle.machine.proofs.Alone.{HalfStays, HalvesStay, alone_stands}
use Rattle.machine.proofs.Moving.{Rows, each}
use Rattle.machine.proofs.Outcomes.{Holds, Stands}
use Rattle.machine.proofs.Tidied.{emptied_stands}
use Rattle.machine.proofs.Tidying.{rolling_back_so}

-- Each row that the old version has has its old half.
olds_stay : (s : State) (fates : List (ℕ × Fate)) (u : Rows) → HalvesStay by_rolling_back s.version s.schema fates s u
olds_stay s fates u stay = each (λ row. RowStands s u.0 row → HalfStays by_rolling_back s.version s.schema fates s u.0 row) (λ row stands. stands.old) u.1

rolled_state : (s : State) (fates : List (ℕ × Fate)) → IsState s → IsState (standing_alone by_rolling_back s.version s.schema fates s)
rolled_state s fates stands =
    alone_stands by_rolling_back s.version s.schema fates s stands refl refl stands.version
    (each (HalvesStay by_rolling_back s.version s.schema fates s) (olds_stay s fates) s.tables)

-- Rolling back, the return to the old version or the step of tidying after it, leads from a state that stands to one.
pub rolled_back_stands : (s : State) → IsState s → Holds Stands (rollback s)
rolled_back_stands s stands =
    rolling_back_so s Stands (λ is. by_mode s.mode)
    (λ is. emptied_stands s 0 kind.Nothing stands (λ no. let differ : kind.Nothing ≡ kind.Rollback = sym no ∙ is in absurd cc) refl)
  where
    by_mode : (mode : Mode) → Holds Stands (roll_back s mode)
    by_mode Calm = tt
    by_mode (Both name schema fates) = rolled_state s fates stands
