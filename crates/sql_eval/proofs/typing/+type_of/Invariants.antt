use Rattle.std.proofs.Common.{◌≡◌, Ok, drop, ◌++◌}
use Rattle.sql_base.specs.Outcome.{and_then}
use Rattle.sql_eval.specs.Typing as spec
use Rattle.sql_eval.proofs.typing.+type_of.Given as goal

abbrev pub invariant-types_of_arms-loop-arm : goal.invariant-types_of_arms-loop-arm
invariant-types_of_arms-loop-arm l = and_then (spec.arms_of l.shape (drop l.arm-index l.arms)) (λ rest. Ok (l.types ++ rest)) ≡ spec.arms_of l.shape l.arms

abbrev pub invariant-types_of-loop-e : goal.invariant-types_of-loop-e
invariant-types_of-loop-e l = and_then (spec.every_of l.shape (drop l.e-index l.args)) (λ rest. Ok (l.types ++ rest)) ≡ spec.every_of l.shape l.args
