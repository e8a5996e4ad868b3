use Rattle.std.proofs.Common.{◌≡◌, drop, map}
use Rattle.std.specs.List.{filter}
use Rattle.machine.specs.Migrate.{first_of, has_missing, unfilled_tables}
use Rattle.machine.proofs.fill.first_unfilled.Given as goal

abbrev pub invariant-loop-table : goal.invariant-loop-table
invariant-loop-table l = first_of (filter (has_missing l.s) (map (λ table. table.0) (drop l.table-index l.table-items))) ≡ first_of (unfilled_tables l.s)
