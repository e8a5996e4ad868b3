use Rattle.std.proofs.Common.{◌≡◌, ◌++◌, [], map, drop}
use Rattle.std.specs.List.{concat}
use Rattle.sql_text.specs.Printing as spec
use Rattle.sql_text.proofs.print.+print.Given as goal

abbrev pub invariant-write_arms-loop-arm : goal.invariant-write_arms-loop-arm
invariant-write_arms-loop-arm l =
    l.out.items ++ concat (map spec.spelled_arm (drop l.arm-index l.arms)) ≡ l.fn.out.items ++ concat (map spec.spelled_arm l.arms)

abbrev pub invariant-write_all-loop-e : goal.invariant-write_all-loop-e
invariant-write_all-loop-e l =
    l.out.items ++ spec.joined l.separator (map spec.spelled (drop l.e-index l.args)) ≡ l.fn.out.items ++ spec.joined [] (map spec.spelled l.args)
