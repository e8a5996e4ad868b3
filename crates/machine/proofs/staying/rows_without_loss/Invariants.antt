use Rattle.std.proofs.Common.{◌≡◌, ◌++◌, drop, map}
use Rattle.machine.specs.Migrate.{without_loss}
use Rattle.machine.proofs.staying.rows_without_loss.Given as goal

abbrev pub invariant-loop-row : goal.invariant-loop-row
invariant-loop-row l = l.all ++ map without_loss (drop l.row-index l.rows) ≡ map without_loss l.rows
