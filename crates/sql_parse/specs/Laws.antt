-- The laws of the grammar.
use Rattle.std.specs.Prelude.{◌≡◌, ◌⊎◌, ℕ, List}
use Rattle.sql_text.specs.declared.tokens.Token.{Token}
use Rattle.sql_text.specs.Laws.{HasText}
use Rattle.sql_text.specs.Lexing.{tokens_of}
use Rattle.sql_text.specs.Printing.{spelled}
use Rattle.sql_base.specs.declared.exprs.Expr.{Expr}
use Rattle.sql_base.specs.declared.stmts.Stmt.{Stmt}
use Rattle.sql_parse.specs.declared.faults.ParseFault.{ParseFault}
use Rattle.sql_parse.specs.Grammar.{IsText, IsStmt}
use Rattle.sql_parse.specs.Reading.{ReadsAs, Fails}

-- no text has two trees
abbrev pub OneTree : Type 0
OneTree = (ts : List Token) (a b : Expr) → IsText ts a → IsText ts b → a ≡ b

-- no text has two statements
abbrev pub OneStatement : Type 0
OneStatement = (ts : List Token) (a b : Stmt) → IsStmt ts a → IsStmt ts b → a ≡ b

-- The canonical text of an expression reads as that expression.
abbrev pub ReadBack : Type 0
ReadBack = (a : Expr) → HasText a → IsText (tokens_of (spelled a)) a

-- Each expression that a text reads as has a canonical text.
abbrev pub TreesHaveText : Type 0
TreesHaveText = (text : List ℕ) (a : Expr) → IsText (tokens_of text) a → HasText a

-- Each text reads as a tree that isn't too deep, or has a first fault.
abbrev pub TextsReadOrFail : {X : Type 0} → (List Token → X → Type 0) → (X → ℕ) → Type 0
TextsReadOrFail {X} IsWhole deepness = (text : List ℕ) → ((a : X) × ReadsAs IsWhole deepness text a) ⊎ ((f : ParseFault) × Fails IsWhole deepness text f)

-- No text does both.
abbrev pub NeverBoth : {X : Type 0} → (List Token → X → Type 0) → (X → ℕ) → Type 0
NeverBoth {X} IsWhole deepness = (text : List ℕ) (a : X) (f : ParseFault) → ReadsAs IsWhole deepness text a → Fails IsWhole deepness text f → ⊥

-- A text reads as one tree at most.
abbrev pub ReadsOnce : {X : Type 0} → (List Token → X → Type 0) → (X → ℕ) → Type 0
ReadsOnce {X} IsWhole deepness = (text : List ℕ) (a b : X) → ReadsAs IsWhole deepness text a → ReadsAs IsWhole deepness text b → a ≡ b

-- A text has one first fault at most.
abbrev pub FailsOnce : {X : Type 0} → (List Token → X → Type 0) → (X → ℕ) → Type 0
FailsOnce IsWhole deepness = (text : List ℕ) (f g : ParseFault) → Fails IsWhole deepness text f → Fails IsWhole deepness text g → f ≡ g
