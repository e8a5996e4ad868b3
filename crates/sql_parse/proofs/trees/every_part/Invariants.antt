use Rattle.std.proofs.Common.{◌≡◌}
use Rattle.sql_parse.specs.Machine.{every_part}
use Rattle.sql_parse.proofs.trees.every_part.Given as goal

abbrev pub invariant-loop-part : goal.invariant-loop-part
invariant-loop-part l = l.found ≡ every_part l.yielded
