use Rattle.std.proofs.Common.{◌≡◌, ◌==◌, drop}
use Rattle.std.specs.List.{zip}
use Rattle.std.specs.Map.{lookup}
use Rattle.row_rules.proofs.inserting.value_for.Given as goal

abbrev pub invariant-loop-i : goal.invariant-loop-i
invariant-loop-i l = lookup (λ place. place == l.at) (zip (drop l.i l.places) (drop l.i l.values)) ≡ lookup (λ place. place == l.at) (zip l.places l.values)
