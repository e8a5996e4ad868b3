use Rattle.std.proofs.Common.{◌≡◌, ◌++◌, None, Some, drop, if◌then◌else◌}
use Rattle.std.specs.List.{filter_map}
use Rattle.csv.specs.Records.{fields_of}
use Rattle.sql_text.specs.Identifier.{name_in}
use Rattle.csv_load.specs.Load.{is_header}
use Rattle.csv_load.specs.Steps.{names_of}
use Rattle.csv_load.proofs.loading.names_of.Given as goal

abbrev pub invariant-loop-at : goal.invariant-loop-at
invariant-loop-at l =
    let rest = drop l.at (fields_of l.header) in
    (if is_header rest then Some (l.names ++ filter_map name_in rest) else None) ≡ names_of (fields_of l.header)
