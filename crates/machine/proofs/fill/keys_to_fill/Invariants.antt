use Rattle.std.proofs.Common.{◌≡◌, ◌++◌, drop}
use Rattle.row_rules.specs.Rows.{missing_keys}
use Rattle.machine.proofs.fill.keys_to_fill.Given as goal

abbrev pub invariant-loop-row : goal.invariant-loop-row
invariant-loop-row l = l.keys ++ missing_keys (drop l.row-index l.rows) ≡ missing_keys l.rows
