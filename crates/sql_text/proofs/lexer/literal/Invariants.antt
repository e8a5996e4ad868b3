use Rattle.std.proofs.Common.{◌≡◌, drop, false}
use Rattle.sql_text.specs.Lexing.{literal}
use Rattle.sql_text.proofs.Literals.{behind}
use Rattle.sql_text.proofs.lexer.literal.Given as goal

abbrev pub invariant-loop-at : goal.invariant-loop-at
invariant-loop-at l = behind l.value.items l.at (literal l.after_quote (drop l.at l.rest)) ≡ literal false l.rest
