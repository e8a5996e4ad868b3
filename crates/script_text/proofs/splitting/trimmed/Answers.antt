use Rattle.std.proofs.Common.{arith}
use Rattle.std.proofs.lemmas.Bool.Decides.{nat_tests}
use Rattle.script_text.proofs.FirstLine.{trimmed_return, trimmed_other}
use Rattle.script_text.proofs.splitting.trimmed.Goals as goal

pub returns-then-line-end-eq13 : goal.returns-then-line-end-eq13
returns-then-line-end-eq13 c = trimmed_return c.args.line.now (grind (arith, nat_tests)) c.if-line-end-eq13.true

pub returns-else-line-end-eq13 : goal.returns-else-line-end-eq13
returns-else-line-end-eq13 c = trimmed_other c.args.line.now c.if-line-end-eq13.false
