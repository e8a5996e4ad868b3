use Rattle.std.proofs.Common.{◌≡◌, ◌++◌, take}
use Rattle.std.specs.List.{All, flat_map}
use Rattle.journal_rec.specs.Body.{IsProperValue, value_bytes}
use Rattle.journal_rec.proofs.writing.push_values.Given as goal

abbrev pub invariant-loop-value : goal.invariant-loop-value
invariant-loop-value l = record {
  written : l.out.items ≡ l.initial.out.items ++ flat_map value_bytes (take l.value-index l.values);
  proper : All IsProperValue (take l.value-index l.values);
}
