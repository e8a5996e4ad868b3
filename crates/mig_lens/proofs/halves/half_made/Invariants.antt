use Rattle.std.proofs.Common.{◌≡◌, ◌++◌, drop, Ok}
use Rattle.std.specs.Option.{option_copied}
use Rattle.sql_base.specs.Outcome.{and_then, every}
use Rattle.mig_lens.specs.Lens as spec
use Rattle.mig_lens.proofs.halves.half_made.Given as goal

-- the values so far, and then what the other columns come to, is the whole half
abbrev pub invariant-loop-at : goal.invariant-loop-at
invariant-loop-at l =
    and_then (every (spec.outcomes l.shape l.half (option_copied l.previous) l.at (drop l.at l.cells))) (λ rest. Ok (l.values ++ rest)) ≡ spec.half_made l.cells l.shape l.half (option_copied l.previous)
