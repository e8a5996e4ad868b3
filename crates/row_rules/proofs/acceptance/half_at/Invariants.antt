use Rattle.std.proofs.Common.{◌≡◌, drop}
use Rattle.std.specs.Map.{lookup}
use Rattle.std.specs.Ordering.{int_eq}
use Rattle.row_rules.specs.Accept.{present}
use Rattle.row_rules.proofs.acceptance.half_at.Given as goal

abbrev pub invariant-loop-row : goal.invariant-loop-row
invariant-loop-row l = lookup (int_eq l.key) (present l.side (drop l.row-index l.rows)) ≡ lookup (int_eq l.key) (present l.side l.rows)
