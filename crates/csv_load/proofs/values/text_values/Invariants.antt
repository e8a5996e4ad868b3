use Rattle.std.proofs.Common.{◌≡◌, ◌++◌, None, Some, drop, if◌then◌else◌}
use Rattle.std.specs.List.{list_all}
use Rattle.std.specs.Option.{option_copied}
use Rattle.csv.specs.Records.{fields_of}
use Rattle.csv_load.specs.Load.{is_text, values_of}
use Rattle.csv_load.specs.Steps.{text_values}
use Rattle.csv_load.proofs.values.text_values.Given as goal

abbrev pub invariant-loop-at : goal.invariant-loop-at
invariant-loop-at l =
    let rest = drop l.at (fields_of l.row) in
    (if list_all is_text rest then Some (l.values ++ values_of (option_copied l.shape) (drop l.at l.names) rest) else None)
    ≡ text_values (option_copied l.shape) l.names (fields_of l.row)
