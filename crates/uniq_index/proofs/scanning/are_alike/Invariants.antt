use Rattle.std.proofs.Common.{◌≡◌, drop}
use Rattle.sql_eval.specs.Row.{all_alike}
use Rattle.uniq_index.proofs.scanning.are_alike.Given as goal

abbrev pub invariant-loop-at : goal.invariant-loop-at
invariant-loop-at l = all_alike (drop l.at l.one) (drop l.at l.two) ≡ all_alike l.one l.two
