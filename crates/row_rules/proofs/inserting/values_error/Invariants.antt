use Rattle.std.proofs.Common.{◌≡◌, drop}
use Rattle.std.specs.List.{zip}
use Rattle.row_rules.specs.Outcome.{first_some}
use Rattle.row_rules.specs.Settle.{no_columns, value_error}
use Rattle.row_rules.proofs.inserting.values_error.Given as goal

abbrev pub invariant-loop-at : goal.invariant-loop-at
invariant-loop-at l =
    first_some (value_error no_columns l.shape) (zip (drop l.at l.places) (drop l.at l.row)) ≡ first_some (value_error no_columns l.shape) (zip l.places l.row)
