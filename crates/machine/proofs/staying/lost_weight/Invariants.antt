use Rattle.std.proofs.Common.{◌≡◌, ◌+◌, drop}
use Rattle.machine.specs.Migrate.{lost_weight}
use Rattle.machine.proofs.staying.lost_weight.Given as goal

abbrev pub invariant-loop-at : goal.invariant-loop-at
invariant-loop-at l = l.total + lost_weight (drop l.at l.cells) (drop l.at l.values) ≡ lost_weight l.cells l.values
