-- What is answered to the placed tokens of an expression.
use Rattle.std.proofs.Common.{IfOk, ◌≡◌, ℕ, ◌≤◌, List, [], ◌∷◌, ◌++◌, true, false, Option, Some, None, refl, sym, ap, ◌∙◌, subst, take, length, Result, Ok, Err}
use Rattle.sql_base.specs.declared.exprs.Expr.{Expr}
use Rattle.sql_base.specs.Tree.{depth}
use Rattle.sql_text.specs.declared.tokens.Placed.{Placed}
use Rattle.sql_text.specs.declared.tokens.Token.{Token}
use Rattle.sql_text.specs.declared.tokens.Token.TheVariants as t
use Rattle.sql_text.specs.Laws.{HasText}
use Rattle.sql_text.specs.Lexing.{lexed, tokens_of}
use Rattle.sql_parse.specs.declared.faults.ParseFault.{ParseFault}
use Rattle.sql_parse.specs.declared.machine.Part.{Part}
use Rattle.sql_parse.specs.declared.machine.Part.TheVariants.{Whole, Deep}
use Rattle.sql_parse.specs.declared.machine.Open.{Open}
use Rattle.sql_parse.specs.declared.machine.State.{State}
use Rattle.sql_parse.specs.declared.machine.State.TheVariants as q
use Rattle.sql_parse.specs.Grammar.{IsText}
use Rattle.sql_parse.specs.Laws.{ReadBack, TreesHaveText}
use Rattle.sql_parse.specs.Machine.{run, step, then_step, settled, by_last}
use Rattle.sql_parse.specs.Reader.{takes_number, Answers, IsEnded, IsTreeOf}
use Rattle.sql_parse.specs.Reading.{kinds, ReadsAgain}
use Rattle.sql_parse.proofs.Complete.{run-append, one_tree}
use Rattle.sql_parse.proofs.Runs.{goes, runs, Tells}
use Rattle.sql_parse.proofs.Told.{only, all_read}
use Rattle.sql_parse.proofs.Whole.{start, run_viable, run_fails, whole_read, deep_read}

-- ---- the machine of expressions

goes_so : (most : ℕ) (r : Option State) (x : Token) → goes (step most) r x ≡ then_step most r x
goes_so most None x = refl
goes_so most (Some r) x = refl

pub runs_so : (most : ℕ) (r : Option State) (xs : List Token) → runs (step most) r xs ≡ run most r xs
runs_so most r [] = refl
runs_so most r (x ∷ xs) = runs_so most (goes (step most) r x) xs ∙ ap (λ o. run most o xs) (goes_so most r x)

pub no_number : (r : State) (n : ℕ) → takes_number r ≡ false → step 64 r (t.Int n) ≡ None
no_number (q.Want st) n h = absurd cc
no_number (q.Minus st) n h = absurd cc
no_number (q.Have st a l) n h = refl
no_number (q.Named st f name) n h = refl
no_number (q.Is st a) n h = refl
no_number (q.IsNot st a) n h = refl
no_number (q.Typed st a) n h = refl
no_number (q.Cast st) n h = refl
no_number (q.CastAs st a) n h = refl
no_number (q.CastTo st a to) n h = refl
no_number (q.Case st) n h = refl
no_number (q.Done a) n h = refl

pub number : (r : State) → takes_number r ≡ true → (next : State) × (step 64 r (t.Int 0) ≡ Some next)
number (q.Want st) h = (_, refl)
number (q.Minus st) h = (_, refl)
number (q.Have st a l) h = absurd cc
number (q.Named st f name) h = absurd cc
number (q.Is st a) h = absurd cc
number (q.IsNot st a) h = absurd cc
number (q.Typed st a) h = absurd cc
number (q.Cast st) h = absurd cc
number (q.CastAs st a) h = absurd cc
number (q.CastTo st a to) h = absurd cc
number (q.Case st) h = absurd cc
number (q.Done a) h = absurd cc

pub exprs_tell : Tells IsText (step 64) (q.Want []) takes_number
exprs_tell = record {
  can = λ ts r e. run_viable ts r (sym (runs_so 64 start ts) ∙ e);
  cannot = λ ts e. run_fails ts (sym (runs_so 64 start ts) ∙ e);
  number = number;
  no_number = λ r h. no_number r 0 h;
}

-- ---- the end

last_done : (st : List Open) (a : Part) (r : State) → by_last st a ≡ Some r → (b : Part) × (r ≡ q.Done b)
last_done [] a r e = (a, cc)
last_done (f ∷ st) a r e = absurd cc

pub end_done : (r : State) (next : State) → step 64 r t.End ≡ Some next → (b : Part) × (next ≡ q.Done b)
end_done (q.Want st) next e = absurd cc
end_done (q.Minus st) next e = absurd cc
end_done (q.Have st a l) next e = let x = settled 64 0 st a l in last_done x.stack x.tree next e
end_done (q.Named st f name) next e = let x = settled 64 0 st _ 11 in last_done x.stack x.tree next e
end_done (q.Is st a) next e = absurd cc
end_done (q.IsNot st a) next e = absurd cc
end_done (q.Typed st a) next e = absurd cc
end_done (q.Cast st) next e = absurd cc
end_done (q.CastAs st a) next e = absurd cc
end_done (q.CastTo st a to) next e = absurd cc
end_done (q.Case st) next e = absurd cc
end_done (q.Done a) next e = absurd cc

then_done : (r : Option State) (next : State) → then_step 64 r t.End ≡ Some next → (b : Part) × (next ≡ q.Done b)
then_done None next e = absurd cc
then_done (Some r) next e = end_done r next e

whole_done : (xs : List Token) (r : State) → run 64 start (xs ++ t.End ∷ []) ≡ Some r → (b : Part) × (r ≡ q.Done b)
whole_done xs r e = then_done (run 64 start xs) r (sym (run-append 64 start xs (t.End ∷ [])) ∙ e)

pub all_run : (ps : List Placed) (i : ℕ) (r : Option State) → length ps ≤ i → runs (step 64) start (kinds (take i ps)) ≡ r → run 64 start (kinds ps) ≡ r
all_run ps i r h e = sym (runs_so 64 start (kinds ps)) ∙ all_read (step 64) start ps i r h e

pub is_done : (ps : List Placed) (i : ℕ) (r : State) → IsEnded (kinds ps) → length ps ≤ i → runs (step 64) start (kinds (take i ps)) ≡ Some r → (b : Part) × (r ≡ q.Done b)
is_done ps i r ends h e = let all : run 64 start (kinds ps) ≡ Some r = all_run ps i (Some r) h e in whole_done ends.0 r (rw (ends.1) at all)

pub answered : (ps : List Placed) (i : ℕ) (r : State) (part : Part) (result : Result Expr ParseFault) → length ps ≤ i → runs (step 64) start (kinds (take i ps)) ≡ Some r → r ≡ q.Done part →
    IsTreeOf part result → Answers IsText depth ps result
answered ps i r (Whole a d) result h e done is = rw is (whole_read (kinds ps) a d (all_run ps i (Some (q.Done (Whole a d))) h (e ∙ ap Some done)), tt)
answered ps i r Deep result h e done is = rw is (tt, deep_read (kinds ps) (all_run ps i (Some (q.Done Deep)) h (e ∙ ap Some done)))

-- ---- texts

pub its_text : (text : List ℕ) (result : Result Expr ParseFault) → TreesHaveText → Answers IsText depth (lexed 0 0 text) result → IfOk result (λ a. HasText a)
its_text text (Ok a) law given = law text a given.0.0
its_text text (Err f) law given = tt

pub again : (text : List ℕ) (result : Result Expr ParseFault) → ReadBack → Answers IsText depth (lexed 0 0 text) result → ReadsAgain text result
again text result law given a has small is =
    let P : List ℕ → Type 0 = λ bytes. IsText (tokens_of bytes) a in only one_tree depth (lexed 0 0 text) result given a (subst P (sym is) (law a has)) small
