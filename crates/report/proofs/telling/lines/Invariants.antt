use Rattle.std.proofs.Common.{◌≡◌, ◌++◌, drop}
use Rattle.std.specs.List.{flat_map}
use Rattle.report.specs.Lines.{line_of}
use Rattle.report.proofs.telling.lines.Given as goal

abbrev pub invariant-loop-entry : goal.invariant-loop-entry
invariant-loop-entry l = l.out.items ++ flat_map (line_of l.names) (drop l.entry-index l.history) ≡ flat_map (line_of l.names) l.history
