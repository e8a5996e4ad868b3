use Rattle.std.proofs.Common.{length}
use Rattle.script_text.proofs.ReadTo.{ReadTo}
use Rattle.script_text.proofs.blocks.read_script.Given as goal

abbrev pub invariant-loop-rest : goal.invariant-loop-rest
invariant-loop-rest l = ReadTo l.text l.number l.blocks l.rest

abbrev pub decreases-loop-rest : goal.decreases-loop-rest
decreases-loop-rest l = length l.rest
