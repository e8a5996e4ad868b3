use Rattle.std.proofs.Common.{◌≡◌}
use Rattle.sql_parse.specs.Machine.{every_arm}
use Rattle.sql_parse.proofs.trees.every_arm.Given as goal

abbrev pub invariant-loop-when : goal.invariant-loop-when
invariant-loop-when l = l.found ≡ every_arm l.yielded
