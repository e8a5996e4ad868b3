use Rattle.std.proofs.Common.{◌≡◌, drop, map, slice_index_or}
use Rattle.sql_base.specs.declared.values.Value.TheVariants.{Null}
use Rattle.sql_eval.specs.Row.{all_alike}
use Rattle.uniq_index.proofs.scanning.has_alike.Given as goal

abbrev pub invariant-loop-at : goal.invariant-loop-at
invariant-loop-at l =
    all_alike (map (λ at. slice_index_or l.row at Null) (drop l.at l.columns)) (drop l.at l.values) ≡ all_alike (map (λ at. slice_index_or l.row at Null) l.columns) l.values
