use Rattle.std.proofs.Common.{◌≡◌, ◌++◌, drop}
use Rattle.row_rules.specs.Inner.{without_key}
use Rattle.row_rules.proofs.together.without_key.Given as goal

abbrev pub invariant-loop-row : goal.invariant-loop-row
invariant-loop-row l = l.all ++ without_key l.key (drop l.row-index l.rows) ≡ without_key l.key l.rows
