use Rattle.std.proofs.Common.{◌≡◌, ◌≤◌, ◌+◌, ◌-◌, ◌^◌, drop, min}
use Rattle.row_rules.specs.Accept.{total_weight}
use Rattle.row_rules.specs.Changes.{rows_put}
use Rattle.row_rules.proofs.together.total_weight.Given as goal

abbrev pub invariant-loop-change : goal.invariant-loop-change
invariant-loop-change l =
    (l.total ≤ 2 ^ 64 - 1) × (min (l.total + total_weight (rows_put (drop l.change-index l.changes))) (2 ^ 64 - 1) ≡ min (total_weight (rows_put l.changes)) (2 ^ 64 - 1))
