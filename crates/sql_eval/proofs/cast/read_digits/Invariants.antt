use Rattle.std.proofs.Common.{◌≡◌, ◌^◌, ◌-◌, min, drop, ◌≤◌}
use Rattle.std.specs.Option.{option_map}
use Rattle.sql_eval.specs.Cast as spec
use Rattle.sql_eval.proofs.cast.read_digits.Given as goal

abbrev pub invariant-loop-b : goal.invariant-loop-b
invariant-loop-b l =
    (l.n ≤ 2 ^ 64 - 1)
    × (option_map (λ n. min n (2 ^ 64 - 1)) (spec.read_digits l.n (drop l.b-index l.digits)) ≡ option_map (λ n. min n (2 ^ 64 - 1)) (spec.read_digits 0 l.digits))
