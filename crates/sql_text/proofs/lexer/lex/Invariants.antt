use Rattle.std.proofs.Common.{◌≡◌, ◌≤◌, ◌++◌, ◌-◌, drop, length}
use Rattle.sql_text.specs.Lexing.{lexed}
use Rattle.sql_text.proofs.lexer.lex.Given as goal

abbrev pub invariant-loop-at : goal.invariant-loop-at
invariant-loop-at l = (l.at ≤ length l.text) × (l.tokens ++ lexed l.at 0 (drop l.at l.text) ≡ lexed 0 0 l.text)

abbrev pub decreases-loop-at : goal.decreases-loop-at
decreases-loop-at l = length l.text - l.at
