use Rattle.std.proofs.Common.{◌≡◌, drop, nat_lt, if◌then◌else◌}
use Rattle.row_rules.specs.Accept.{times}
use Rattle.row_rules.specs.Changes.{rows_put}
use Rattle.row_rules.proofs.together.has_twice.Given as goal

abbrev pub invariant-loop-change : goal.invariant-loop-change
invariant-loop-change l = nat_lt (if l.found then 0 else 1) (times l.key (rows_put (drop l.change-index l.changes))) ≡ nat_lt 1 (times l.key (rows_put l.changes))
