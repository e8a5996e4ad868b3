use Rattle.std.proofs.Common.{◌≡◌, ◌+◌, [], drop, length, map}
use Rattle.std.specs.Option.{option_copied}
use Rattle.csv.specs.Records.{fields_of}
use Rattle.csv_load.specs.Steps.{lines_from}
use Rattle.csv_load.proofs.loading.lines.Given as goal

abbrev pub invariant-loop-row : goal.invariant-loop-row
invariant-loop-row l = record {
  number : l.number ≡ l.row-index + 1;
  few : length l.lines ≡ l.row-index;
  same : lines_from l.table (option_copied l.shape) l.names (l.number + 1) l.lines (map fields_of (drop l.row-index l.rows))
      ≡ lines_from l.table (option_copied l.shape) l.names 2 [] (map fields_of l.rows);
}
