use Rattle.std.proofs.Common.{◌≡◌, ◌++◌, take}
use Rattle.std.specs.List.{All, flat_map}
use Rattle.journal_rec.specs.Body.{IsProperRow, row_bytes}
use Rattle.journal_rec.proofs.writing.push_rows.Given as goal

abbrev pub invariant-loop-row : goal.invariant-loop-row
invariant-loop-row l = record {
  written : l.out.items ≡ l.initial.out.items ++ flat_map row_bytes (take l.row-index l.rows);
  proper : All IsProperRow (take l.row-index l.rows);
}
