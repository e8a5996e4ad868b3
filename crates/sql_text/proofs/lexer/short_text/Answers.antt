use Rattle.std.proofs.Common.{arith}
use Rattle.sql_text.proofs.Texts.{text_answer}
use Rattle.sql_text.proofs.lexer.short_text.Goals as goal

pub returns : goal.returns
returns c = text_answer c.args.value.now c.read.result (omega (arith, c.if-value-gt-MAX_TEXT.false)) c.read.ensures
