-- What a text reads as, and its first fault. Layers above cite these.
use Rattle.std.specs.Prelude.{◌≡◌, ◌≤◌, ◌<◌, ℕ, List, [], ◌∷◌, ◌++◌, map, max, Bool, true, false, Option, Some, None, ◌≢◌, Result, MatchResult}
use Rattle.sql_base.specs.Tree.{depth, deepest, deepest_of}
use Rattle.sql_base.specs.declared.exprs.Expr.{Expr}
use Rattle.sql_base.specs.declared.stmts.Stmt.{Stmt}
use Rattle.sql_base.specs.declared.stmts.Stmt.TheVariants as stmt
use Rattle.sql_base.specs.declared.stmts.Items.{Items}
use Rattle.sql_base.specs.declared.stmts.Items.TheVariants as items
use Rattle.sql_text.specs.declared.tokens.Placed.{Placed}
use Rattle.sql_text.specs.declared.tokens.Token.{Token}
use Rattle.sql_text.specs.declared.tokens.Token.TheVariants as t
use Rattle.sql_text.specs.Laws.{HasText}
use Rattle.sql_text.specs.Lexing.{lexed, tokens_of}
use Rattle.sql_text.specs.Printing.{spelled}
use Rattle.sql_parse.specs.declared.faults.ParseFault.{ParseFault}
use Rattle.sql_parse.specs.declared.faults.ParseFault.TheVariants as fault
use Rattle.sql_parse.specs.Viable.{CanBe}

-- the tokens without their places
abbrev pub kinds : List Placed → List Token
kinds placed = map (λ p. p.token) placed

-- ---- depth

abbrev pub items_depth : Items → ℕ
items_depth items.All = 0
items_depth (items.Listed list) = deepest_of list

abbrev pub filter_depth : Option Expr → ℕ
filter_depth None = 0
filter_depth (Some a) = depth a

abbrev pub set_depth : List ℕ × Expr → ℕ
set_depth set = depth set.1

-- the depth of a statement's deepest expression
abbrev pub stmt_depth : Stmt → ℕ
stmt_depth (stmt.Insert table columns rows) = deepest (map deepest_of rows)
stmt_depth (stmt.Update table sets filter) = max (deepest (map set_depth sets)) (filter_depth filter)
stmt_depth (stmt.Delete table filter) = filter_depth filter
stmt_depth (stmt.Query table list filter) = max (items_depth list) (filter_depth filter)
stmt_depth (stmt.SetPath names) = 0

-- ---- faults, for texts of any kind: which tokens are a whole text of which tree, and how deep that is

-- A number stands behind these tokens, and a smaller one would fit there.
abbrev pub IsWide : {X : Type 0} → (List Token → X → Type 0) → List Token → Token → Type 0
IsWide IsWhole before token = (n : ℕ) × (token ≡ t.Int n) × CanBe IsWhole (before ++ t.Int 0 ∷ [])

-- The first token that fits no text: those before it can be completed, and with it they can't. It begins at this byte.
pub record FirstFault {X : Type 0} (IsWhole : List Token → X → Type 0) (text : List Placed) (at : ℕ) (wide : Bool) : Type 0 where
  pub front : List Placed
  pub token : Token
  pub back : List Placed
  pub parts : text ≡ front ++ record { at = at; token = token } ∷ back
  pub before : CanBe IsWhole (kinds front)
  pub with_it : CanBe IsWhole (kinds front ++ token ∷ []) → ⊥
  pub is_wide : wide ≡ true → IsWide IsWhole (kinds front) token
  pub not_wide : wide ≡ false → IsWide IsWhole (kinds front) token → ⊥

-- When each fault is that of a text of these tokens.
abbrev pub Refuses : {X : Type 0} → (List Token → X → Type 0) → (X → ℕ) → List Placed → ParseFault → Type 0
Refuses IsWhole deepness text (fault.Syntax at) = FirstFault IsWhole text at false
Refuses IsWhole deepness text (fault.Wide at) = FirstFault IsWhole text at true
Refuses {X} IsWhole deepness text fault.Deep = (a : X) × IsWhole (kinds text) a × (64 < deepness a)
Refuses IsWhole deepness text fault.NoMemory = Unit {0}

-- ---- texts of bytes

-- The text reads as this tree, which isn't too deep.
abbrev pub ReadsAs : {X : Type 0} → (List Token → X → Type 0) → (X → ℕ) → List ℕ → X → Type 0
ReadsAs IsWhole deepness text a = IsWhole (tokens_of text) a × (deepness a ≤ 64)

-- The text has this first fault. Want of memory is no fault of a text.
abbrev pub Fails : {X : Type 0} → (List Token → X → Type 0) → (X → ℕ) → List ℕ → ParseFault → Type 0
Fails IsWhole deepness text f = (f ≢ fault.NoMemory) × Refuses IsWhole deepness (lexed 0 0 text) f

-- ---- answers

-- Where the text reads as a tree, this is the answer, or want of memory.
abbrev pub AnswersOnly : {X : Type 0} → (List Token → X → Type 0) → (X → ℕ) → List ℕ → Result X ParseFault → Type 0
AnswersOnly {X} IsWhole deepness text result = (a : X) → ReadsAs IsWhole deepness text a → MatchResult result (λ b. b ≡ a) (λ f. f ≡ fault.NoMemory)

-- Where the text is the canonical text of a tree that isn't too deep, this is the answer, or want of memory.
abbrev pub ReadsAgain : List ℕ → Result Expr ParseFault → Type 0
ReadsAgain text result = (a : Expr) → HasText a → depth a ≤ 64 → text ≡ spelled a → MatchResult result (λ b. b ≡ a) (λ f. f ≡ fault.NoMemory)
