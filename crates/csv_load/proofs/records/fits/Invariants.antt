use Rattle.std.proofs.Common.{◌≡◌, ◌+◌, drop}
use Rattle.csv.specs.Records.{fields_of}
use Rattle.csv_load.proofs.Fields.{taken}
use Rattle.csv_load.proofs.records.fits.Given as goal

abbrev pub invariant-loop-at : goal.invariant-loop-at
invariant-loop-at l = l.room + taken (fields_of l.row) ≡ 4097 + taken (drop l.at (fields_of l.row))
