use Rattle.std.proofs.Common.{◌≡◌, ◌++◌, drop}
use Rattle.row_rules.specs.Changes.{put_row}
use Rattle.row_rules.proofs.together.put_row.Given as goal

abbrev pub invariant-loop-at : goal.invariant-loop-at
invariant-loop-at l = l.all ++ put_row l.row (drop l.at l.rows) ≡ put_row l.row l.rows
