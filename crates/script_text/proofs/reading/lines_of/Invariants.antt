use Rattle.std.proofs.Common.{length}
use Rattle.script_text.proofs.ReadOn.{ReadSoFar}
use Rattle.script_text.proofs.reading.lines_of.Given as goal

abbrev pub invariant-loop-rest : goal.invariant-loop-rest
invariant-loop-rest g l = ReadSoFar g.L.LineForm.said l.text l.number l.lines l.rest

abbrev pub decreases-loop-rest : goal.decreases-loop-rest
decreases-loop-rest g l = length l.rest
