use Rattle.std.proofs.Common.{◌≡◌, ◌+◌, drop}
use Rattle.std.specs.List.{position_or_len}
use Rattle.mig_plan.specs.Draft.{is_now}
use Rattle.mig_plan.proofs.altering.position_of.Given as goal

abbrev pub invariant-loop-at : goal.invariant-loop-at
invariant-loop-at l = l.at + position_or_len (is_now l.name) (drop l.at l.columns) ≡ position_or_len (is_now l.name) l.columns
