use Rattle.std.proofs.Common.{◌≡◌, drop}
use Rattle.std.specs.List.{list_any}
use Rattle.machine.specs.Migrate.{has_heavy}
use Rattle.machine.proofs.start.too_heavy.Given as goal

abbrev pub invariant-loop-table : goal.invariant-loop-table
invariant-loop-table l = list_any (has_heavy l.plan.fates) (drop l.table-index l.table-items) ≡ list_any (has_heavy l.plan.fates) l.s.tables
