-- Each text reads or has a first fault, and never both.
use Rattle.std.proofs.Common.{◌≡◌, ◌≢◌, ℕ, ◌≤◌, List, [], ◌∷◌, ◌++◌, Bool, true, false, Option, Some, None, Ok, Err, refl, ap, ◌∙◌, subst, arith, length, take, append_assoc, append-nil, ◌⊎◌, inl, inr}
use Rattle.std.proofs.lemmas.List.{map-append, take_all}
use Rattle.sql_base.specs.declared.exprs.Expr.{Expr}
use Rattle.sql_base.specs.declared.stmts.Stmt.{Stmt}
use Rattle.sql_base.specs.Tree.{depth}
use Rattle.sql_text.specs.declared.tokens.Placed.{Placed}
use Rattle.sql_text.specs.declared.tokens.Token.{Token}
use Rattle.sql_text.specs.declared.tokens.Token.TheVariants as t
use Rattle.sql_parse.specs.declared.faults.ParseFault.{ParseFault}
use Rattle.sql_parse.specs.declared.faults.ParseFault.TheVariants as fault
use Rattle.sql_parse.specs.declared.machine.Part.{Part}
use Rattle.sql_parse.specs.declared.machine.Part.TheVariants.{Whole, Deep}
use Rattle.sql_parse.specs.declared.machine.State.{State}
use Rattle.sql_parse.specs.declared.machine.State.TheVariants as q
use Rattle.sql_parse.specs.declared.stages.Stage.{Stage}
use Rattle.sql_parse.specs.declared.stages.Stage.TheVariants as g
use Rattle.sql_parse.specs.Grammar.{IsText, IsStmt}
use Rattle.sql_parse.specs.Machine.{step}
use Rattle.sql_parse.specs.Reader.{IsEnded, fault_of}
use Rattle.sql_parse.specs.Reading.{kinds, Refuses, stmt_depth}
use Rattle.sql_parse.specs.Stages.{stage_step}
use Rattle.sql_parse.proofs.Complete.{one_tree}
use Rattle.sql_parse.proofs.Exprs as exprs
use Rattle.sql_parse.proofs.Runs.{runs, runs_last, Tells}
use Rattle.sql_parse.proofs.Statements as stmts
use Rattle.sql_parse.proofs.Through.{one_statement}
use Rattle.sql_parse.proofs.Told.{only, told}
use Rattle.sql_parse.proofs.Whole.{start}

abbrev HasFault : {X : Type 0} → (List Token → X → Type 0) → (X → ℕ) → List Placed → Type 0
HasFault IsWhole deepness ps = (f : ParseFault) × (f ≢ fault.NoMemory) × Refuses IsWhole deepness ps f

abbrev Decided : {X : Type 0} → (List Token → X → Type 0) → (X → ℕ) → List Placed → Type 0
Decided {X} IsWhole deepness ps = ((a : X) × IsWhole (kinds ps) a × (deepness a ≤ 64)) ⊎ HasFault IsWhole deepness ps

-- The tokens are gone through to a state, or have a first fault.
abbrev Gone : {S X : Type 0} → (List Token → X → Type 0) → (S → Token → Option S) → S → (X → ℕ) → List Placed → Type 0
Gone {S} IsWhole step start deepness ps = ((r : S) × (runs step (Some start) (kinds ps) ≡ Some r)) ⊎ HasFault IsWhole deepness ps

-- A token's fault is no want of memory.
token_fault : (b : Bool) (x : Token) (at : ℕ) → fault_of b x at ≢ fault.NoMemory
token_fault true (t.Int n) at e = absurd cc
token_fault true (t.Name name) at e = absurd cc
token_fault true (t.Quoted name) at e = absurd cc
token_fault true (t.Text text) at e = absurd cc
token_fault true (t.Key key) at e = absurd cc
token_fault true (t.Sign sign) at e = absurd cc
token_fault true (t.Minus tight) at e = absurd cc
token_fault true t.Bad at e = absurd cc
token_fault true t.End at e = absurd cc
token_fault false x at e = absurd cc

module _ {S X : Type 0} {IsWhole : List Token → X → Type 0} {step : S → Token → Option S} {start : S} {takes : S → Bool} (tells : Tells IsWhole step start takes) (deepness : X → ℕ) where
  walk : (back front : List Placed) (r : S) → runs step (Some start) (kinds front) ≡ Some r → Gone IsWhole step start deepness (front ++ back)
  walk [] front r e = inl (r, rw append-nil e)
  walk (x ∷ back) front r e = by_step (step r x.token) refl (walk back (front ++ x ∷ []))
    where
      by_step : (o : Option S) → step r x.token ≡ o →
          ((next : S) → runs step (Some start) (kinds (front ++ x ∷ [])) ≡ Some next → Gone IsWhole step start deepness ((front ++ x ∷ []) ++ back)) →
          Gone IsWhole step start deepness (front ++ x ∷ back)
      by_step None n deeper = inr (fault_of (takes r) x.token x.at, token_fault (takes r) x.token x.at, told tells deepness (front ++ x ∷ back) front back x.at x.token r refl e n (takes r) refl)
      by_step (Some next) n deeper =
          let goes : runs step (Some start) (kinds (front ++ x ∷ [])) ≡ Some next =
          ap (runs step (Some start)) (map-append (λ p. p.token) front (x ∷ [])) ∙ runs_last step (Some start) (kinds front) x.token r e ∙ n in
          let P : List Placed → Type 0 = λ ps. Gone IsWhole step start deepness ps in subst P (append_assoc front (x ∷ []) back) (deeper next goes)

  -- What is gone through to its end is decided there.
  decided : (ps : List Placed) → ((r : S) → runs step (Some start) (kinds ps) ≡ Some r → Decided IsWhole deepness ps) → Decided IsWhole deepness ps
  decided ps last = elim (walk ps [] start refl) [ inl gone ↦ last gone.0 gone.1 | inr fails ↦ inr fails ]

  never : (one_tree : (ts : List Token) (a b : X) → IsWhole ts a → IsWhole ts b → a ≡ b) (ps : List Placed) (a : X) (f : ParseFault) → IsWhole (kinds ps) a → deepness a ≤ 64 → f ≢ fault.NoMemory → Refuses IsWhole deepness ps f → ⊥
  never one_tree ps a f reads small not_memory refuses = not_memory (only one_tree deepness ps (Err f) (tt, refuses) a reads small)

all_of : (ps : List Placed) → take (length ps) ps ≡ ps
all_of ps = take_all (length ps) ps (omega arith)

expr_ends : (ps : List Placed) → IsEnded (kinds ps) → (r : State) → runs (step 64) start (kinds ps) ≡ Some r → Decided IsText depth ps
expr_ends ps ends r e =
    let gone : runs (step 64) start (kinds (take (length ps) ps)) ≡ Some r = rw (all_of ps) e in
    let done = exprs.is_done ps (length ps) r ends (omega arith) gone in
    by_part done.0 gone done.1
  where
    by_part : (part : Part) → runs (step 64) start (kinds (take (length ps) ps)) ≡ Some r → r ≡ q.Done part → Decided IsText depth ps
    by_part (Whole a d) gone done =
        let read = exprs.answered ps (length ps) r (Whole a d) (Ok a) (omega arith) gone done refl in inl (a, read.0.0, read.0.1)
    by_part Deep gone done = inr (fault.Deep, (λ e. absurd cc), (exprs.answered ps (length ps) r Deep (Err fault.Deep) (omega arith) gone done refl).1)

pub expr_decided : (ps : List Placed) → IsEnded (kinds ps) → Decided IsText depth ps
expr_decided ps ends = decided exprs.exprs_tell depth ps (expr_ends ps ends)

pub expr_never : (ps : List Placed) (a : Expr) (f : ParseFault) → IsText (kinds ps) a → depth a ≤ 64 → f ≢ fault.NoMemory → Refuses IsText depth ps f → ⊥
expr_never = never exprs.exprs_tell depth one_tree

stmt_ends : (ps : List Placed) → IsEnded (kinds ps) → (r : Stage) → runs (stage_step 64) stmts.begun (kinds ps) ≡ Some r → Decided IsStmt stmt_depth ps
stmt_ends ps ends r e =
    let gone : runs (stage_step 64) stmts.begun (kinds (take (length ps) ps)) ≡ Some r = rw (all_of ps) e in
    let done = stmts.is_done ps (length ps) r ends (omega arith) gone in
    by_made done.0 gone done.1
  where
    by_made : (made : Option Stmt) → runs (stage_step 64) stmts.begun (kinds (take (length ps) ps)) ≡ Some r → r ≡ g.Done made → Decided IsStmt stmt_depth ps
    by_made (Some a) gone done =
        let read = stmts.answered ps (length ps) r (Some a) (Ok a) (omega arith) gone done refl in inl (a, read.0.0, read.0.1)
    by_made None gone done = inr (fault.Deep, (λ e. absurd cc), (stmts.answered ps (length ps) r None (Err fault.Deep) (omega arith) gone done refl).1)

pub stmt_decided : (ps : List Placed) → IsEnded (kinds ps) → Decided IsStmt stmt_depth ps
stmt_decided ps ends = decided stmts.stmts_tell stmt_depth ps (stmt_ends ps ends)

pub stmt_never : (ps : List Placed) (a : Stmt) (f : ParseFault) → IsStmt (kinds ps) a → stmt_depth a ≤ 64 → f ≢ fault.NoMemory → Refuses IsStmt stmt_depth ps f → ⊥
stmt_never = never stmts.stmts_tell stmt_depth one_statement
