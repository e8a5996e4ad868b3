-- What can still become a text.
use Rattle.std.specs.Prelude.{List, ◌++◌}
use Rattle.sql_text.specs.declared.tokens.Token.{Token}
use Rattle.sql_parse.specs.Grammar.{IsText, IsStmt}

-- Tokens can be added so that they become a whole text.
pub record CanBe {X : Type 0} (IsWhole : List Token → X → Type 0) (front : List Token) : Type 0 where
  pub more : List Token
  pub tree : X
  pub text : IsWhole (front ++ more) tree

-- the text of an expression, and of a statement
abbrev pub Viable : List Token → Type 0
Viable front = CanBe IsText front

abbrev pub ViableStmt : List Token → Type 0
ViableStmt front = CanBe IsStmt front
