use Rattle.std.proofs.Common.{◌≡◌, None, drop}
use Rattle.sql_eval.specs.Typing as spec
use Rattle.sql_eval.proofs.typing.case_type.Given as goal

abbrev pub invariant-loop-test : goal.invariant-loop-test
invariant-loop-test l = spec.case_type l.branches (drop l.test-index l.arms) l.other ≡ spec.case_type None l.arms l.other
