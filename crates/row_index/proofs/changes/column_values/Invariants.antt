use Rattle.std.proofs.Common.{◌≡◌, ◌++◌, drop, map, slice_index_or}
use Rattle.sql_base.specs.declared.values.Value.TheVariants.{Null}
use Rattle.sql_eval.specs.Row.{values_of}
use Rattle.row_index.proofs.changes.column_values.Given as goal

abbrev pub invariant-loop-at : goal.invariant-loop-at
invariant-loop-at l = l.values ++ map (λ at. slice_index_or l.row at Null) (drop l.at-index l.at-items) ≡ values_of l.unique l.row
