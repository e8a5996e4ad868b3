use Rattle.std.proofs.Common.{◌≡◌, drop}
use Rattle.std.specs.Map.{lookup}
use Rattle.std.specs.Ordering.{int_eq}
use Rattle.constraint.proofs.clashes.values_under.Given as goal

abbrev pub invariant-loop-row : goal.invariant-loop-row
invariant-loop-row l = lookup (int_eq l.key) (drop l.row-index l.rows) ≡ lookup (int_eq l.key) l.rows
