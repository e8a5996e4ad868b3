-- What the reader says of its own steps. No layer above cites it.
use Rattle.std.specs.Prelude.{◌≡◌, ◌≢◌, ℕ, List, [], ◌∷◌, ◌++◌, Bool, true, false, Option, Some, None, Result, Ok, Err, MatchResult, IfOk, IfErr, ◌≤◌}
use Rattle.sql_base.specs.declared.exprs.Expr.{Expr}
use Rattle.sql_base.specs.declared.stmts.Stmt.{Stmt}
use Rattle.sql_text.specs.declared.tokens.Placed.{Placed}
use Rattle.sql_text.specs.declared.tokens.Token.{Token}
use Rattle.sql_text.specs.declared.tokens.Token.TheVariants as t
use Rattle.sql_parse.specs.declared.faults.ParseFault.{ParseFault}
use Rattle.sql_parse.specs.declared.faults.ParseFault.TheVariants as fault
use Rattle.sql_parse.specs.declared.machine.Part.{Part}
use Rattle.sql_parse.specs.declared.machine.Part.TheVariants.{Whole, Deep}
use Rattle.sql_parse.specs.declared.machine.State.{State}
use Rattle.sql_parse.specs.declared.machine.State.TheVariants as q
use Rattle.sql_parse.specs.declared.stages.SelectStage.TheVariants as r
use Rattle.sql_parse.specs.declared.stages.Stage.{Stage}
use Rattle.sql_parse.specs.declared.stages.Stage.TheVariants as g
use Rattle.sql_parse.specs.Reading.{kinds, Refuses}

-- whether a number may come next, in an expression and in a statement
abbrev pub takes_number : State → Bool
takes_number (q.Want st) = true
takes_number (q.Minus st) = true
takes_number _ = false

abbrev pub takes_number_there : Stage → Bool
takes_number_there (g.In place state) = takes_number state
takes_number_there (g.Select r.Word) = true
takes_number_there _ = false

-- the fault of a token that can't be gone through: where a number may come, and where none may
abbrev pub fault_of : Bool → Token → ℕ → ParseFault
fault_of true (t.Int n) at = fault.Wide at
fault_of _ _ at = fault.Syntax at

-- These tokens end in the end.
abbrev pub IsEnded : List Token → Type 0
IsEnded tokens = (front : List Token) × (tokens ≡ front ++ t.End ∷ [])

-- One token more is gone through, or refused with its fault: by the step of a machine that takes a number or doesn't.
abbrev pub Advances : {S : Type 0} → (S → Token → Option S) → Bool → S → Placed → Result S ParseFault → Type 0
Advances step takes state placed result =
    MatchResult result (λ next. step state placed.token ≡ Some next)
    (λ f. f ≢ fault.NoMemory → (step state placed.token ≡ None) × (f ≡ fault_of takes placed.token placed.at))

-- the tree of a part, or that it was given up; and of a statement
abbrev pub IsTreeOf : Part → Result Expr ParseFault → Type 0
IsTreeOf (Whole a d) result = result ≡ Ok a
IsTreeOf Deep result = result ≡ Err fault.Deep

abbrev pub IsStmtOf : Option Stmt → Result Stmt ParseFault → Type 0
IsStmtOf (Some a) result = result ≡ Ok a
IsStmtOf None result = result ≡ Err fault.Deep

-- A tree that is answered is that of the tokens, and not too deep; a fault has its cause.
abbrev pub Answers : {X : Type 0} → (List Token → X → Type 0) → (X → ℕ) → List Placed → Result X ParseFault → Type 0
Answers IsWhole deepness tokens result = IfOk result (λ a. IsWhole (kinds tokens) a × (deepness a ≤ 64)) × IfErr result (λ f. Refuses IsWhole deepness tokens f)
