-- What the run of a list of tokens says.
use Rattle.std.proofs.Common.{◌≡◌, ℕ, ◌≤◌, ◌<◌, List, [], ◌++◌, Bool, true, false, Option, Some, None, if◌then◌else◌, nat_le, refl, ◌∙◌, subst, arith}
use Rattle.std.proofs.lemmas.Bool.{leb-true, leb-false}
use Rattle.sql_base.specs.declared.exprs.Expr.{Expr}
use Rattle.sql_base.specs.Tree.{depth}
use Rattle.sql_text.specs.declared.tokens.Token.{Token}
use Rattle.sql_parse.specs.declared.machine.Part.{Part}
use Rattle.sql_parse.specs.declared.machine.Part.TheVariants.{Whole, Deep}
use Rattle.sql_parse.specs.declared.machine.State.{State}
use Rattle.sql_parse.specs.declared.machine.State.TheVariants as q
use Rattle.sql_parse.specs.Grammar.{IsText}
use Rattle.sql_parse.specs.Machine.{run}
use Rattle.sql_parse.specs.Viable.{Viable}
use Rattle.sql_parse.proofs.Capped.{cap, capped}
use Rattle.sql_parse.proofs.Complete.{run-append, run-none, text_runs}
use Rattle.sql_parse.proofs.Sound.{LeadsIf, run_leads, viable, none}

abbrev pub start : Option State
start = Some (q.Want [])

pub run_reads : (ts : List Token) (a : Part) → run 64 start ts ≡ Some (q.Done a) → (b : Expr) × IsText ts b × (a ≡ cap 64 b)
run_reads ts a e = let P : Option State → Type 0 = λ r. LeadsIf r ts in subst P e (run_leads start ts [] none)

pub run_viable : (ts : List Token) (r : State) → run 64 start ts ≡ Some r → Viable ts
run_viable ts r e = let P : Option State → Type 0 = λ r. LeadsIf r ts in viable r ts (subst P e (run_leads start ts [] none))

pub run_fails : (ts : List Token) → run 64 start ts ≡ None → Viable ts → ⊥
run_fails ts e w =
    let done = text_runs 64 (omega arith) (ts ++ w.more) w.tree w.text in
    let fails : run 64 start (ts ++ w.more) ≡ None = run-append 64 start ts w.more ∙ rw e (run-none 64 w.more) in cc

capped_whole : (b a : Expr) (d n : ℕ) → Whole a d ≡ capped 64 b n → (a ≡ b) × (n ≤ 64)
capped_whole b a d n e = by_test (nat_le n 64) refl e
  where
    by_test : (w : Bool) → nat_le n 64 ≡ w → Whole a d ≡ (if w then Whole b n else Deep) → (a ≡ b) × (n ≤ 64)
    by_test true h e = (cc, leb-true n 64 h)
    by_test false h e = absurd cc

capped_deep : (b : Expr) (n : ℕ) → Deep ≡ capped 64 b n → 64 < n
capped_deep b n e = by_test (nat_le n 64) refl e
  where
    by_test : (w : Bool) → nat_le n 64 ≡ w → Deep ≡ (if w then Whole b n else Deep) → 64 < n
    by_test true h e = absurd cc
    by_test false h e = leb-false n 64 h

pub whole_read : (ts : List Token) (a : Expr) (d : ℕ) → run 64 start ts ≡ Some (q.Done (Whole a d)) → IsText ts a × (depth a ≤ 64)
whole_read ts a d e = let read = run_reads ts (Whole a d) e in let same = capped_whole read.0 a d (depth read.0) read.2 in rw (same.0) (read.1, same.1)

pub deep_read : (ts : List Token) → run 64 start ts ≡ Some (q.Done Deep) → (a : Expr) × IsText ts a × (64 < depth a)
deep_read ts e = let read = run_reads ts Deep e in (read.0, read.1, capped_deep read.0 (depth read.0) read.2)
