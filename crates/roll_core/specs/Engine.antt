-- How the engine's calls answer.
use Rattle.std.specs.Prelude.{[], ◌∷◌, None}
use Rattle.machine.specs.declared.events.Event.{Event}
use Rattle.machine.specs.declared.events.Event.TheVariants as event
use Rattle.machine.specs.declared.states.State.{State}
use Rattle.machine.specs.Done.{CommandOutcome}
use Rattle.machine.specs.Migrate as migrate
use Rattle.machine.specs.State.{beginning}
use Rattle.roll_core.specs.declared.commands.Cmd.{Cmd}
use Rattle.roll_core.specs.declared.commands.Cmd.TheVariants.{Start, Complete, Rollback}
use Rattle.mig_lens.specs.declared.columns.Side.TheVariants.{Old}
use Rattle.roll_core.specs.declared.forms.Form.TheVariants.{Own}
use Rattle.roll_core.specs.Store.{Stored}

-- A command, as the machine's event.
abbrev pub event_of : Cmd → Event
event_of (Start asked) = event.Start asked
event_of Complete = event.Complete
event_of Rollback = event.Rollback

-- What the machine answers to it.
abbrev pub command_outcome : State → Cmd → CommandOutcome
command_outcome s (Start asked) = migrate.start s asked
command_outcome s Complete = migrate.complete s
command_outcome s Rollback = migrate.rollback s

-- What an engine stores at first: the one table of the version that the machine begins with, which has no row.
abbrev pub first_stored : Stored
first_stored = record {
  frame = record beginning { tables = [] };
  former = None;
  tables = record { number = 1; form = Own Old; rows = [] } ∷ [];
}
