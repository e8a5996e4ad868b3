use Rattle.std.proofs.Common.{◌≡◌, None, drop}
use Rattle.sql_eval.specs.Typing as spec
use Rattle.sql_eval.proofs.typing.one_type.Given as goal

abbrev pub invariant-loop-t : goal.invariant-loop-t
invariant-loop-t l = spec.one_type l.so_far (drop l.t-index l.types) ≡ spec.one_type None l.types
