-- What is answered to the placed tokens of a statement.
use Rattle.std.proofs.Common.{◌≡◌, ℕ, ◌≤◌, ◌<◌, List, [], ◌∷◌, ◌++◌, Bool, true, false, Option, Some, None, if◌then◌else◌, refl, sym, ap, ◌∙◌, subst, arith, take, length, Result, nat_le}
use Rattle.std.specs.Option.{option_map}
use Rattle.std.proofs.lemmas.Bool.{leb-true, leb-false}
use Rattle.sql_base.specs.declared.exprs.Expr.{Expr}
use Rattle.sql_base.specs.declared.stmts.Stmt.{Stmt}
use Rattle.sql_text.specs.declared.tokens.Placed.{Placed}
use Rattle.sql_text.specs.declared.tokens.Token.{Token}
use Rattle.sql_text.specs.declared.tokens.Token.TheVariants as t
use Rattle.sql_parse.specs.declared.faults.ParseFault.{ParseFault}
use Rattle.sql_parse.specs.declared.machine.State.{State}
use Rattle.sql_parse.specs.declared.stages.Place.{Place}
use Rattle.sql_parse.specs.declared.stages.Place.TheVariants as pl
use Rattle.sql_parse.specs.declared.stages.InsertStage.TheVariants as i
use Rattle.sql_parse.specs.declared.stages.UpdateStage.TheVariants as u
use Rattle.sql_parse.specs.declared.stages.SelectStage.TheVariants as r
use Rattle.sql_parse.specs.declared.stages.PathStage.TheVariants as w
use Rattle.sql_parse.specs.declared.stages.Stage.{Stage}
use Rattle.sql_parse.specs.declared.stages.Stage.TheVariants as g
use Rattle.sql_parse.specs.Grammar.{IsStmt}
use Rattle.sql_parse.specs.Machine.{step}
use Rattle.sql_parse.specs.Reader.{takes_number_there, Answers, IsEnded, IsStmtOf}
use Rattle.sql_parse.specs.Reading.{kinds, stmt_depth}
use Rattle.sql_parse.specs.Stages.{behind, whole, is_whole, left_at, within, stage_step}
use Rattle.sql_parse.specs.Viable.{ViableStmt}
use Rattle.sql_parse.proofs.Exprs.{number, no_number}
use Rattle.sql_parse.proofs.Kept.{kept}
use Rattle.sql_parse.proofs.Runs.{goes, runs, runs-append, runs-none, Tells}
use Rattle.sql_parse.proofs.Standing.{Stands, StandsIf, run_stands, stage_viable, begin, finished}
use Rattle.sql_parse.proofs.Through.{whole_ends, part_goes_on, stmt_text_runs}
use Rattle.sql_parse.proofs.Told.{all_read}

abbrev pub begun : Option Stage
begun = Some g.Begin

-- ---- the machine of statements

can : (ts : List Token) (stage : Stage) → runs (stage_step 64) begun ts ≡ Some stage → ViableStmt ts
can ts stage h = let P : Option Stage → Type 0 = λ x. StandsIf x ts in stage_viable (subst P h (run_stands begun ts [] begin))

cannot : (ts : List Token) → runs (stage_step 64) begun ts ≡ None → ViableStmt ts → ⊥
cannot ts h more =
    let made = stmt_text_runs 64 (omega arith) (ts ++ more.more) more.tree more.text in
    let fails : runs (stage_step 64) begun (ts ++ more.more) ≡ None = runs-append (stage_step 64) begun ts more.more ∙ rw h (runs-none (stage_step 64) more.more) in cc

number_there : (stage : Stage) → takes_number_there stage ≡ true → (next : Stage) × (stage_step 64 stage (t.Int 0) ≡ Some next)
number_there (g.In place state) h = let next = number state h in (g.In place next.0, ap (option_map (g.In place)) next.1)
number_there (g.Select r.Word) h = (_, refl)
number_there (g.Select r.Starred) h = absurd cc
number_there (g.Select (r.From list)) h = absurd cc
number_there g.Begin h = absurd cc
number_there (g.Insert stage) h = absurd cc
number_there (g.Update stage) h = absurd cc
number_there g.Delete h = absurd cc
number_there g.DeleteFrom h = absurd cc
number_there (g.Set stage) h = absurd cc
number_there (g.Main main) h = absurd cc
number_there (g.Ended made) h = absurd cc
number_there (g.Done made) h = absurd cc

no_number_there : (stage : Stage) → takes_number_there stage ≡ false → stage_step 64 stage (t.Int 0) ≡ None
no_number_there (g.In place state) h = ap (option_map (g.In place)) (no_number state 0 h)
no_number_there (g.Select r.Word) h = absurd cc
no_number_there (g.Select r.Starred) h = refl
no_number_there (g.Select (r.From list)) h = refl
no_number_there g.Begin h = refl
no_number_there (g.Insert i.Word) h = refl
no_number_there (g.Insert i.Into) h = refl
no_number_there (g.Insert (i.Table table)) h = refl
no_number_there (g.Insert (i.ColumnWanted table columns)) h = refl
no_number_there (g.Insert (i.ColumnHad table columns)) h = refl
no_number_there (g.Insert (i.Columns table columns)) h = refl
no_number_there (g.Insert (i.TupleWanted table columns rows)) h = refl
no_number_there (g.Insert (i.TupleHad table columns rows)) h = refl
no_number_there (g.Update u.Word) h = refl
no_number_there (g.Update (u.Table table)) h = refl
no_number_there (g.Update (u.Wanted table sets)) h = refl
no_number_there (g.Update (u.Named table sets name)) h = refl
no_number_there g.Delete h = refl
no_number_there g.DeleteFrom h = refl
no_number_there (g.Set w.Word) h = refl
no_number_there (g.Set w.Path) h = refl
no_number_there (g.Set (w.Wanted names)) h = refl
no_number_there (g.Set (w.Had names)) h = refl
no_number_there (g.Main main) h = refl
no_number_there (g.Ended made) h = refl
no_number_there (g.Done made) h = refl

pub stmts_tell : Tells IsStmt (stage_step 64) g.Begin takes_number_there
stmts_tell = record { can = can; cannot = cannot; number = number_there; no_number = no_number_there }

-- ---- the end

some_done : {made : Option Stmt} {next : Stage} → Some (g.Done made) ≡ Some next → (made : Option Stmt) × (next ≡ g.Done made)
some_done {made} h = (made, cc)

behind_done : (place : Place) (a : Option Expr) (next : Stage) → behind place a t.End ≡ Some next → (made : Option Stmt) × (next ≡ g.Done made)
behind_done (pl.Tuple table columns rows row) a next h = absurd cc
behind_done (pl.Assigned table sets name) a next h = some_done h
behind_done (pl.Item list) a next h = absurd cc
behind_done (pl.Filter main) a next h = some_done h

within_done : (place : Place) (state : State) (next : Stage) → within 64 place state t.End ≡ Some next → (made : Option Stmt) × (next ≡ g.Done made)
within_done place state next h = by_test (is_whole state) refl h
  where
    by_test : (b : Bool) → is_whole state ≡ b → (if b then left_at place t.End (step 64 state t.End) else option_map (g.In place) (step 64 state t.End)) ≡ Some next → (made : Option Stmt) × (next ≡ g.Done made)
    by_test true j h = let last = whole_ends 64 state j in behind_done place (whole last.0) next (sym (ap (left_at place t.End) last.1) ∙ h)
    by_test false j h = let none : option_map (g.In place) (step 64 state t.End) ≡ None = ap (option_map (g.In place)) (part_goes_on 64 state j) in absurd cc

end_done : (stage next : Stage) → stage_step 64 stage t.End ≡ Some next → (made : Option Stmt) × (next ≡ g.Done made)
end_done (g.In place state) next h = within_done place state next h
end_done (g.Select r.Word) next h = absurd cc
end_done (g.Select r.Starred) next h = absurd cc
end_done (g.Select (r.From list)) next h = absurd cc
end_done g.Begin next h = absurd cc
end_done (g.Insert i.Word) next h = absurd cc
end_done (g.Insert i.Into) next h = absurd cc
end_done (g.Insert (i.Table table)) next h = absurd cc
end_done (g.Insert (i.ColumnWanted table columns)) next h = absurd cc
end_done (g.Insert (i.ColumnHad table columns)) next h = absurd cc
end_done (g.Insert (i.Columns table columns)) next h = absurd cc
end_done (g.Insert (i.TupleWanted table columns rows)) next h = absurd cc
end_done (g.Insert (i.TupleHad table columns rows)) next h = some_done h
end_done (g.Update u.Word) next h = absurd cc
end_done (g.Update (u.Table table)) next h = absurd cc
end_done (g.Update (u.Wanted table sets)) next h = absurd cc
end_done (g.Update (u.Named table sets name)) next h = absurd cc
end_done g.Delete next h = absurd cc
end_done g.DeleteFrom next h = absurd cc
end_done (g.Set w.Word) next h = absurd cc
end_done (g.Set w.Path) next h = absurd cc
end_done (g.Set (w.Wanted names)) next h = absurd cc
end_done (g.Set (w.Had names)) next h = some_done h
end_done (g.Main main) next h = some_done h
end_done (g.Ended made) next h = some_done h
end_done (g.Done made) next h = absurd cc

then_done : (stage : Option Stage) (next : Stage) → goes (stage_step 64) stage t.End ≡ Some next → (made : Option Stmt) × (next ≡ g.Done made)
then_done None next h = absurd cc
then_done (Some stage) next h = end_done stage next h

whole_done : (xs : List Token) (stage : Stage) → runs (stage_step 64) begun (xs ++ t.End ∷ []) ≡ Some stage → (made : Option Stmt) × (stage ≡ g.Done made)
whole_done xs stage h = then_done (runs (stage_step 64) begun xs) stage (sym (runs-append (stage_step 64) begun xs (t.End ∷ [])) ∙ h)

pub is_done : (ps : List Placed) (n : ℕ) (stage : Stage) → IsEnded (kinds ps) → length ps ≤ n → runs (stage_step 64) begun (kinds (take n ps)) ≡ Some stage → (made : Option Stmt) × (stage ≡ g.Done made)
is_done ps n stage ends h e = let all : runs (stage_step 64) begun (kinds ps) ≡ Some stage = all_read (stage_step 64) begun ps n (Some stage) h e in whole_done ends.0 stage (rw (ends.1) at all)

finished_whole : {made : Option Stmt} {ts : List Token} → Stands (g.Done made) ts → (a : Stmt) × IsStmt ts a × (made ≡ kept 64 stmt_depth a)
finished_whole (finished {a = a} it is) = (a, it, is)

reads_whole : (ts : List Token) (made : Option Stmt) → runs (stage_step 64) begun ts ≡ Some (g.Done made) → (a : Stmt) × IsStmt ts a × (made ≡ kept 64 stmt_depth a)
reads_whole ts made h = let P : Option Stage → Type 0 = λ x. StandsIf x ts in finished_whole (subst P h (run_stands begun ts [] begin))

kept_is : (a b : Stmt) (b' : Bool) → nat_le (stmt_depth b) 64 ≡ b' → Some a ≡ (if b' then Some b else None) → (a ≡ b) × (stmt_depth b ≤ 64)
kept_is a b true h e = (cc, leb-true (stmt_depth b) 64 h)
kept_is a b false h e = absurd cc

lost_is : (b : Stmt) (b' : Bool) → nat_le (stmt_depth b) 64 ≡ b' → None ≡ (if b' then Some b else None) → 64 < stmt_depth b
lost_is b true h e = absurd cc
lost_is b false h e = leb-false (stmt_depth b) 64 h

pub answered : (ps : List Placed) (n : ℕ) (stage : Stage) (made : Option Stmt) (result : Result Stmt ParseFault) → length ps ≤ n → runs (stage_step 64) begun (kinds (take n ps)) ≡ Some stage → stage ≡ g.Done made →
    IsStmtOf made result → Answers IsStmt stmt_depth ps result
answered ps n stage (Some a) result h e last is =
    let read = reads_whole (kinds ps) (Some a) (all_read (stage_step 64) begun ps n (Some (g.Done (Some a))) h (e ∙ ap Some last)) in
    let same = kept_is a read.0 (nat_le (stmt_depth read.0) 64) refl read.2 in
    rw (is, same.0) ((read.1, same.1), tt)
answered ps n stage None result h e last is =
    let read = reads_whole (kinds ps) None (all_read (stage_step 64) begun ps n (Some (g.Done None)) h (e ∙ ap Some last)) in
    rw is (tt, (read.0, read.1, lost_is read.0 (nat_le (stmt_depth read.0) 64) refl read.2))
