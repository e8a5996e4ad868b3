-- What one lane does is a run of the machine.
use Rattle.std.proofs.Common.{inl, inr, ℕ, ◌+◌, List, [], ◌∷◌}
use Rattle.machine.proofs.Choosing.{lane_comes}
use Rattle.machine.proofs.Running.{beginning_stands, steps_keep_states}
use Rattle.machine.specs.Below.{Below}
use Rattle.machine.specs.declared.events.Entry.{Entry}
use Rattle.machine.specs.declared.states.State.{State}
use Rattle.machine.specs.Laws.{LaneRunsAreRuns, LaneStepsAreSteps}
use Rattle.machine.specs.Standing.{IsState}
use Rattle.machine.specs.State.{beginning}
use Rattle.machine.specs.Step.{LaneRun, Run}

pub lane_steps_are_steps : LaneStepsAreSteps
lane_steps_are_steps s what reply t (wrote, inl c) stands = (wrote, inl (lane_comes s what reply wrote t stands c))
lane_steps_are_steps s what reply t (wrote, inr c) stands = (wrote, inr c)

runs_from : Below → (number : ℕ) (s : State) (history : List Entry) (t : State) → IsState s → LaneRun number s history t → Run number s history t
runs_from below number s [] t stands h = h
runs_from below number s (entry ∷ history) t stands (here, middle, step, rest) =
    let machines = lane_steps_are_steps s entry.event entry.reply middle step stands in
    (here, middle, machines, runs_from below (number + 1) middle history t (steps_keep_states below s entry.event entry.reply middle machines stands) rest)

pub lane_runs_are_runs : Below → LaneRunsAreRuns
lane_runs_are_runs below number history t h = runs_from below number beginning history t beginning_stands h
