use Rattle.std.proofs.Common.{◌≡◌, ◌++◌, drop}
use Rattle.std.specs.List.{flat_map}
use Rattle.sql_text.specs.Printing.{escaped}
use Rattle.sql_text.proofs.values.write_text.Given as goal

abbrev pub invariant-loop-byte : goal.invariant-loop-byte
invariant-loop-byte l = l.out.items ++ flat_map escaped (drop l.byte-index l.text) ≡ l.fn.out.items ++ flat_map escaped l.text
