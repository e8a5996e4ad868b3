use Rattle.std.proofs.Common.{◌≡◌, ◌==◌, drop}
use Rattle.std.specs.Map.{lookup}
use Rattle.row_rules.proofs.writing.given_at.Given as goal

abbrev pub invariant-loop-place : goal.invariant-loop-place
invariant-loop-place l = lookup (λ place. place == l.at) (drop l.place-index l.given) ≡ lookup (λ place. place == l.at) l.given
