use Rattle.std.proofs.Common.{◌≡◌, ◌+◌, drop}
use Rattle.std.specs.List.{position_or_len}
use Rattle.mig_plan.proofs.creating.key_position.Given as goal

abbrev pub invariant-loop-at : goal.invariant-loop-at
invariant-loop-at l = l.at + position_or_len (λ column. column.pk) (drop l.at l.columns) ≡ position_or_len (λ column. column.pk) l.columns
