use Rattle.std.proofs.Common.{◌≡◌, drop}
use Rattle.sql_eval.specs.Row.{all_alike}
use Rattle.constraint.specs.Inner.{values_at}
use Rattle.constraint.proofs.clashes.columns_alike.Given as goal

abbrev pub invariant-loop-at : goal.invariant-loop-at
invariant-loop-at l =
    all_alike (values_at (drop l.at-index l.columns) l.one) (values_at (drop l.at-index l.columns) l.two)
    ≡ all_alike (values_at l.columns l.one) (values_at l.columns l.two)
