-- What was gone through is a front of a statement's text, and at its end a text of the statement that was built.
use Rattle.std.proofs.Common.{◌≡◌, ℕ, List, [], ◌∷◌, ◌++◌, Bool, true, false, Option, Some, None, pos, if◌then◌else◌, refl, sym, ◌∙◌, ap, subst, arith, append_assoc, append-nil, codes, ◌⊎◌, inl, inr}
use Rattle.std.specs.Option.{option_map}
use Rattle.std.specs.Str.{bytes_eq}
use Rattle.std.proofs.lemmas.List.{append_cancel_right}
use Rattle.std.proofs.lemmas.Slice.Eq.{bytes_eq-Decides}
use Rattle.sql_base.specs.declared.values.Value.TheVariants as v
use Rattle.sql_base.specs.declared.exprs.Expr.{Expr}
use Rattle.sql_base.specs.declared.exprs.Expr.TheVariants as e
use Rattle.sql_base.specs.declared.stmts.Stmt.{Stmt}
use Rattle.sql_base.specs.declared.stmts.Stmt.TheVariants as stmt
use Rattle.sql_base.specs.declared.stmts.Items.{Items}
use Rattle.sql_base.specs.declared.stmts.Items.TheVariants as items
use Rattle.sql_base.specs.Tree.{depth, deepest_of}
use Rattle.sql_text.specs.declared.keys.Key.TheVariants as k
use Rattle.sql_text.specs.declared.tokens.Sign.TheVariants as s
use Rattle.sql_text.specs.declared.tokens.Token.{Token}
use Rattle.sql_text.specs.declared.tokens.Token.TheVariants as t
use Rattle.sql_parse.specs.declared.machine.Part.{Part}
use Rattle.sql_parse.specs.declared.machine.State.{State}
use Rattle.sql_parse.specs.declared.machine.State.TheVariants as q
use Rattle.sql_parse.specs.declared.stages.Main.{Main}
use Rattle.sql_parse.specs.declared.stages.Main.TheVariants as m
use Rattle.sql_parse.specs.declared.stages.Place.{Place}
use Rattle.sql_parse.specs.declared.stages.Place.TheVariants as pl
use Rattle.sql_parse.specs.declared.stages.InsertStage.TheVariants as i
use Rattle.sql_parse.specs.declared.stages.UpdateStage.TheVariants as u
use Rattle.sql_parse.specs.declared.stages.SelectStage.TheVariants as r
use Rattle.sql_parse.specs.declared.stages.PathStage.TheVariants as w
use Rattle.sql_parse.specs.declared.stages.Stage.{Stage}
use Rattle.sql_parse.specs.declared.stages.Stage.TheVariants as g
use Rattle.sql_parse.specs.Grammar.{name_of, Reads, IsText, Listed, ReadsName, ReadsTuple, ReadsSet, ReadsFilter, ReadsItems, ReadsStmt, IsStmt, int, first, next, a_name, a_tuple, a_set, no_filter, a_filter, all_items, listed, insert, update, delete, select, path}
use Rattle.sql_parse.specs.Machine.{step, run}
use Rattle.sql_parse.specs.Reading.{items_depth, filter_depth, set_depth, stmt_depth}
use Rattle.sql_parse.specs.Stages.{whole, completed, ended_then, main_then, values_then, sets_then, items_then, behind, stops, is_whole, leaves, left_at, within, path_word, stage_step}
use Rattle.sql_parse.specs.Viable.{Viable, ViableStmt}
use Rattle.sql_parse.proofs.Capped.{cap}
use Rattle.sql_parse.proofs.Complete.{run-append, text_runs}
use Rattle.sql_parse.proofs.Kept.{kept, kept_all, kept_whole, kept_last, kept_set, kept_items, kept_filter, kept_no_filter, kept_insert, kept_update, kept_delete, kept_query}
use Rattle.sql_parse.proofs.Runs.{runs, runs-none}
use Rattle.sql_parse.proofs.Through.{whole_ends, part_goes_on, IsOpen, never_leaves}
use Rattle.sql_parse.proofs.Whole.{start, run_reads, run_viable}

-- ---- what stands before

-- before an item of a list: nothing, or items and a comma
pub data Front {X : Type 0} (ReadsOne : List Token → X → Type 0) : List Token → List X → Type 0 where
  none : Front ReadsOne [] []
  some : {xs : List Token} {list : List X} → Listed ReadsOne xs list → Front ReadsOne (xs ++ t.Sign s.Comma ∷ []) list

with_next : {X : Type 0} {ReadsOne : List Token → X → Type 0} {xs ys : List Token} {list : List X} {a : X} → Front ReadsOne xs list → ReadsOne ys a → Listed ReadsOne (xs ++ ys) (list ++ a ∷ [])
with_next none reads = first reads
with_next (some l) reads = rw append_assoc (next l reads)

-- before WHERE
pub data Heads : Main → List Token → Type 0 where
  updated : {table : List ℕ} {xs : List Token} {sets : List (List ℕ × Expr)} (x : Token) → name_of x ≡ Some table → Listed ReadsSet xs sets →
      Heads (m.Update table (kept_all 64 set_depth sets)) (t.Key k.Update ∷ x ∷ t.Key k.Set ∷ xs)
  deleted : {table : List ℕ} (x : Token) → name_of x ≡ Some table → Heads (m.Delete table) (t.Key k.Delete ∷ t.Key k.From ∷ x ∷ [])
  queried : {table : List ℕ} {xs : List Token} {list : Items} (x : Token) → ReadsItems xs list → name_of x ≡ Some table →
      Heads (m.Query table (kept 64 items_depth list)) (t.Key k.Select ∷ (xs ++ t.Key k.From ∷ x ∷ []))

-- before an expression
pub data Lies : Place → List Token → Type 0 where
  value : {table : List ℕ} {xs ys zs : List Token} {columns : List (List ℕ)} {rows : List (List Expr)} {row : List Expr} (x : Token) → name_of x ≡ Some table → Listed ReadsName xs columns → Front ReadsTuple ys rows → Front (Reads 0) zs row →
      Lies (pl.Tuple table columns (kept_all 64 deepest_of rows) (kept_all 64 depth row)) (t.Key k.Insert ∷ t.Key k.Into ∷ x ∷ t.Sign s.Open ∷ (xs ++ t.Sign s.Close ∷ t.Key k.Values ∷ (ys ++ t.Sign s.Open ∷ zs)))
  assigned : {table name : List ℕ} {xs : List Token} {sets : List (List ℕ × Expr)} (x y : Token) → name_of x ≡ Some table → Front ReadsSet xs sets → name_of y ≡ Some name →
      Lies (pl.Assigned table (kept_all 64 set_depth sets) name) (t.Key k.Update ∷ x ∷ t.Key k.Set ∷ (xs ++ y ∷ t.Sign s.Eq ∷ []))
  item : {xs : List Token} {list : List Expr} → Front (Reads 0) xs list → Lies (pl.Item (kept_all 64 depth list)) (t.Key k.Select ∷ xs)
  filtered : {main : Main} {xs : List Token} → Heads main xs → Lies (pl.Filter main) (xs ++ t.Key k.Where ∷ [])

-- before the next token
pub data Stands : Stage → List Token → Type 0 where
  begin : Stands g.Begin []
  insert_word : Stands (g.Insert i.Word) (t.Key k.Insert ∷ [])
  insert_into : Stands (g.Insert i.Into) (t.Key k.Insert ∷ t.Key k.Into ∷ [])
  insert_table : {table : List ℕ} (x : Token) → name_of x ≡ Some table → Stands (g.Insert (i.Table table)) (t.Key k.Insert ∷ t.Key k.Into ∷ x ∷ [])
  column_wanted : {table : List ℕ} {xs : List Token} {columns : List (List ℕ)} (x : Token) → name_of x ≡ Some table → Front ReadsName xs columns →
      Stands (g.Insert (i.ColumnWanted table columns)) (t.Key k.Insert ∷ t.Key k.Into ∷ x ∷ t.Sign s.Open ∷ xs)
  column_had : {table : List ℕ} {xs : List Token} {columns : List (List ℕ)} (x : Token) → name_of x ≡ Some table → Listed ReadsName xs columns →
      Stands (g.Insert (i.ColumnHad table columns)) (t.Key k.Insert ∷ t.Key k.Into ∷ x ∷ t.Sign s.Open ∷ xs)
  all_columns : {table : List ℕ} {xs : List Token} {columns : List (List ℕ)} (x : Token) → name_of x ≡ Some table → Listed ReadsName xs columns →
      Stands (g.Insert (i.Columns table columns)) (t.Key k.Insert ∷ t.Key k.Into ∷ x ∷ t.Sign s.Open ∷ (xs ++ t.Sign s.Close ∷ []))
  tuple_wanted : {table : List ℕ} {xs ys : List Token} {columns : List (List ℕ)} {rows : List (List Expr)} (x : Token) → name_of x ≡ Some table → Listed ReadsName xs columns → Front ReadsTuple ys rows →
      Stands (g.Insert (i.TupleWanted table columns (kept_all 64 deepest_of rows))) (t.Key k.Insert ∷ t.Key k.Into ∷ x ∷ t.Sign s.Open ∷ (xs ++ t.Sign s.Close ∷ t.Key k.Values ∷ ys))
  tuple_had : {table : List ℕ} {xs ys : List Token} {columns : List (List ℕ)} {rows : List (List Expr)} (x : Token) → name_of x ≡ Some table → Listed ReadsName xs columns → Listed ReadsTuple ys rows →
      Stands (g.Insert (i.TupleHad table columns (kept_all 64 deepest_of rows))) (t.Key k.Insert ∷ t.Key k.Into ∷ x ∷ t.Sign s.Open ∷ (xs ++ t.Sign s.Close ∷ t.Key k.Values ∷ ys))
  update_word : Stands (g.Update u.Word) (t.Key k.Update ∷ [])
  update_table : {table : List ℕ} (x : Token) → name_of x ≡ Some table → Stands (g.Update (u.Table table)) (t.Key k.Update ∷ x ∷ [])
  set_wanted : {table : List ℕ} {xs : List Token} {sets : List (List ℕ × Expr)} (x : Token) → name_of x ≡ Some table → Front ReadsSet xs sets →
      Stands (g.Update (u.Wanted table (kept_all 64 set_depth sets))) (t.Key k.Update ∷ x ∷ t.Key k.Set ∷ xs)
  set_named : {table name : List ℕ} {xs : List Token} {sets : List (List ℕ × Expr)} (x y : Token) → name_of x ≡ Some table → Front ReadsSet xs sets → name_of y ≡ Some name →
      Stands (g.Update (u.Named table (kept_all 64 set_depth sets) name)) (t.Key k.Update ∷ x ∷ t.Key k.Set ∷ (xs ++ y ∷ []))
  delete_word : Stands g.Delete (t.Key k.Delete ∷ [])
  delete_from : Stands g.DeleteFrom (t.Key k.Delete ∷ t.Key k.From ∷ [])
  select_word : Stands (g.Select r.Word) (t.Key k.Select ∷ [])
  starred : Stands (g.Select r.Starred) (t.Key k.Select ∷ t.Sign s.Star ∷ [])
  select_from : {xs : List Token} {list : Items} → ReadsItems xs list → Stands (g.Select (r.From (kept 64 items_depth list))) (t.Key k.Select ∷ (xs ++ t.Key k.From ∷ []))
  set_word : Stands (g.Set w.Word) (t.Key k.Set ∷ [])
  path_named : (x : Token) → name_of x ≡ Some (codes "search_path") → Stands (g.Set w.Path) (t.Key k.Set ∷ x ∷ [])
  version_wanted : {xs : List Token} {names : List (List ℕ)} (x : Token) → name_of x ≡ Some (codes "search_path") → Front ReadsName xs names →
      Stands (g.Set (w.Wanted names)) (t.Key k.Set ∷ x ∷ t.Key k.To ∷ xs)
  version_had : {xs : List Token} {names : List (List ℕ)} (x : Token) → name_of x ≡ Some (codes "search_path") → Listed ReadsName xs names →
      Stands (g.Set (w.Had names)) (t.Key k.Set ∷ x ∷ t.Key k.To ∷ xs)
  main_had : {main : Main} {xs : List Token} → Heads main xs → Stands (g.Main main) xs
  inside : {place : Place} {xs : List Token} {state : State} (ys : List Token) → Lies place xs → run 64 start ys ≡ Some state → IsOpen state → Stands (g.In place state) (xs ++ ys)
  ended : {made : Option Stmt} {xs : List Token} {a : Stmt} → ReadsStmt xs a → made ≡ kept 64 stmt_depth a → Stands (g.Ended made) (xs ++ t.Sign s.Semicolon ∷ [])
  finished : {made : Option Stmt} {xs : List Token} {a : Stmt} → IsStmt xs a → made ≡ kept 64 stmt_depth a → Stands (g.Done made) xs

abbrev pub StandsIf : Option Stage → List Token → Type 0
StandsIf None ts = Unit {0}
StandsIf (Some stage) ts = Stands stage ts

moved_to : {stage : Stage} {ts us : List Token} → ts ≡ us → Stands stage ts → Stands stage us
moved_to {stage} same h = subst (Stands stage) same h

regrouped : {a : Stmt} {ts us : List Token} → ts ≡ us → ReadsStmt ts a → ReadsStmt us a
regrouped {a} same h = subst (λ ts. ReadsStmt ts a) same h

-- ---- statements that are whole

record Headed (main : Main) (cond : Option Expr) (ts : List Token) : Type 0 where
  tree : Stmt
  reads : ReadsStmt ts tree
  is : completed main (kept 64 filter_depth cond) ≡ kept 64 stmt_depth tree

headed : {main : Main} {xs ys : List Token} {cond : Option Expr} → Heads main xs → ReadsFilter ys cond → Headed main cond (xs ++ ys)
headed {cond = cond} (updated {table = table} {sets = sets} x is l) f = record { tree = stmt.Update table sets cond; reads = update x is l f; is = kept_update 64 table sets cond }
headed {cond = cond} (deleted {table = table} x is) f = record { tree = stmt.Delete table cond; reads = delete x is f; is = kept_delete 64 table cond }
headed {cond = cond} (queried {table = table} {list = list} x l is) f = record { tree = stmt.Query table list cond; reads = regrouped (simp append_assoc) (select x l is f); is = kept_query 64 table list cond }

end_stands : (made : Option Stmt) {ts : List Token} {a : Stmt} → ReadsStmt ts a → made ≡ kept 64 stmt_depth a → (x : Token) → StandsIf (ended_then made x) (ts ++ x ∷ [])
end_stands made reads is (t.Sign s.Semicolon) = ended reads is
end_stands made {ts = ts} reads is t.End = finished (record { tokens = ts; ends = inl refl; reads = reads }) is
end_stands made reads is _ = tt

-- an expression is to come
here : {place : Place} {xs : List Token} → Lies place xs → Stands (g.In place (q.Want [])) xs
here {place} {xs} l = subst (Stands (g.In place (q.Want []))) (append-nil xs) (inside [] l refl tt)

no_filter_behind : {main : Main} {ts : List Token} → Heads main ts → Headed main None ts
no_filter_behind {main} {ts} h = subst (Headed main None) (append-nil ts) (headed h no_filter)

main_ends : (main : Main) {ts : List Token} → Heads main ts → (x : Token) → StandsIf (ended_then (completed main (Some None)) x) (ts ++ x ∷ [])
main_ends main h x = let n = no_filter_behind h in end_stands (completed main (Some None)) n.reads (ap (completed main) (kept_no_filter 64) ∙ n.is) x

main_stands : (main : Main) {ts : List Token} → Heads main ts → (x : Token) → StandsIf (main_then main x) (ts ++ x ∷ [])
main_stands main h (t.Key k.Where) = here (filtered h)
main_stands main h x = main_ends main h x

sets_stand : {table : List ℕ} {xs : List Token} {sets : List (List ℕ × Expr)} (y : Token) → name_of y ≡ Some table → Listed ReadsSet xs sets → (x : Token) →
    StandsIf (sets_then table (kept_all 64 set_depth sets) x) (t.Key k.Update ∷ y ∷ t.Key k.Set ∷ (xs ++ x ∷ []))
sets_stand y is l (t.Sign s.Comma) = set_wanted y is (some l)
sets_stand {table} {xs} {sets} y is l x = main_stands (m.Update table (kept_all 64 set_depth sets)) (updated y is l) x

items_stand : {xs : List Token} {list : List Expr} → Listed (Reads 0) xs list → (x : Token) → StandsIf (items_then (kept_all 64 depth list) x) (t.Key k.Select ∷ (xs ++ x ∷ []))
items_stand l (t.Sign s.Comma) = here (item (some l))
items_stand {xs} {list} l (t.Key k.From) = rw (kept_items 64 list) (select_from (listed l))
items_stand l _ = tt

values_stand : {table : List ℕ} {xs ys zs : List Token} {columns : List (List ℕ)} {rows : List (List Expr)} {row : List Expr} (y : Token) → name_of y ≡ Some table → Listed ReadsName xs columns → Front ReadsTuple ys rows → Listed (Reads 0) zs row → (x : Token) →
    StandsIf (values_then table columns (kept_all 64 deepest_of rows) (kept_all 64 depth row) x) (t.Key k.Insert ∷ t.Key k.Into ∷ y ∷ t.Sign s.Open ∷ (xs ++ t.Sign s.Close ∷ t.Key k.Values ∷ (ys ++ t.Sign s.Open ∷ (zs ++ x ∷ []))))
values_stand y is l f vals (t.Sign s.Comma) = here (value y is l f (some vals))
values_stand {rows = rows} {row = row} y is l f vals (t.Sign s.Close) = rw (kept_last 64 deepest_of rows row) (tuple_had y is l (with_next f (a_tuple vals)))
values_stand y is l f vals _ = tt

-- the place, an expression there, and a token behind it
behind_stands : {place : Place} {xs : List Token} → Lies place xs → (ys : List Token) (a : Expr) → Reads 0 ys a → (x : Token) → StandsIf (behind place (kept 64 depth a) x) ((xs ++ ys) ++ x ∷ [])
behind_stands (value {table = table} {columns = columns} {rows = rows} {row = row} y is l f vals) ys a reads x =
    let P : List Token → Type 0 = λ ts. StandsIf (values_then table columns (kept_all 64 deepest_of rows) (kept_all 64 depth (row ++ a ∷ [])) x) ts in
    rw (kept_last 64 depth row a) (subst P (simp append_assoc) (values_stand y is l f (with_next vals reads) x))
behind_stands (assigned {table = table} {name = name} {sets = sets} y z is f named) ys a reads x =
    let P : List Token → Type 0 = λ ts. StandsIf (sets_then table (kept_all 64 set_depth (sets ++ (name, a) ∷ [])) x) ts in
    rw (kept_set 64 name a, kept_last 64 set_depth sets (name, a)) (subst P (simp append_assoc) (sets_stand y is (with_next f (a_set z named reads)) x))
behind_stands (item {list = list} f) ys a reads x = rw (kept_last 64 depth list a) (items_stand (with_next f reads) x)
behind_stands (filtered {main = main} {xs = xs} h) ys a reads x =
    let n = headed h (a_filter reads) in
    let made : Option Stmt = completed main (option_map Some (kept 64 depth a)) in
    let P : List Token → Type 0 = λ ts. StandsIf (ended_then made x) ts in
    subst P (simp append_assoc) (end_stands made n.reads (ap (completed main) (kept_filter 64 a) ∙ n.is) x)

-- ---- one step

named_stands : (form : List ℕ → Stage) (x : Token) (ts : List Token) → ((name : List ℕ) → name_of x ≡ Some name → Stands (form name) ts) → StandsIf (option_map form (name_of x)) ts
named_stands form x ts stands = by_name (name_of x) refl
  where
    by_name : (name : Option (List ℕ)) → name_of x ≡ name → StandsIf (option_map form name) ts
    by_name None is = tt
    by_name (Some name) is = stands name is

-- What an expression's text ends in is the end, and the expression is before it.
before_end : (ys : List Token) (a : Expr) → IsText (ys ++ t.End ∷ []) a → Reads 0 ys a
before_end ys a it = rw (append_cancel_right ys it.tokens (t.End ∷ []) it.ends) it.reads

last_same : (ys zs : List Token) (x : Token) → ys ++ x ∷ [] ≡ zs ++ t.End ∷ [] → x ≡ t.End
last_same [] [] x h = cc
last_same [] (z ∷ []) x h = absurd cc
last_same [] (z ∷ y ∷ zs) x h = absurd cc
last_same (y ∷ []) [] x h = absurd cc
last_same (y ∷ z ∷ ys) [] x h = absurd cc
last_same (y ∷ ys) (z ∷ zs) x h = let rest : ys ++ x ∷ [] ≡ zs ++ t.End ∷ [] = cc in last_same ys zs x rest

run_last : (ys : List Token) (x : Token) (state : State) → run 64 start ys ≡ Some state → run 64 start (ys ++ x ∷ []) ≡ step 64 state x
run_last ys x state h = run-append 64 start ys (x ∷ []) ∙ rw h refl

-- Only the end leads to the end.
end_alone : (ys : List Token) (x : Token) (state : State) (a : Part) → run 64 start ys ≡ Some state → step 64 state x ≡ Some (q.Done a) → x ≡ t.End
end_alone ys x state a h e = let read = run_reads (ys ++ x ∷ []) a (run_last ys x state h ∙ e) in last_same ys read.1.tokens x read.1.ends

no_end : (state : State) (x : Token) (a : Part) → leaves x state ≡ false → x ≡ t.End → step 64 state x ≡ Some (q.Done a) → ⊥
no_end state x a stays is e =
    let P : Token → Type 0 = λ x. leaves x state ≡ false in
    let last : is_whole state ≡ false = subst P is stays in
    let none = part_goes_on 64 state last in cc

stays_open : (ys : List Token) (x : Token) (state new : State) → run 64 start ys ≡ Some state → leaves x state ≡ false → step 64 state x ≡ Some new → IsOpen new
stays_open ys x state (q.Done a) h stays e = absurd (no_end state x a stays (end_alone ys x state a h e) e)
stays_open ys x state _ h stays e = tt

moved : {place : Place} {xs : List Token} → Lies place xs → (ys : List Token) (x : Token) (state : State) → run 64 start ys ≡ Some state → leaves x state ≡ false →
    StandsIf (option_map (g.In place) (step 64 state x)) ((xs ++ ys) ++ x ∷ [])
moved {place} {xs} l ys x state h stays = by_next (step 64 state x) refl
  where
    by_next : (new : Option State) → step 64 state x ≡ new → StandsIf (option_map (g.In place) new) ((xs ++ ys) ++ x ∷ [])
    by_next None e = tt
    by_next (Some new) e = moved_to (simp append_assoc) (inside (ys ++ x ∷ []) l (run_last ys x state h ∙ e) (stays_open ys x state new h stays e))

left_stands : {place : Place} {xs : List Token} → Lies place xs → (ys : List Token) (x : Token) (state : State) → run 64 start ys ≡ Some state → is_whole state ≡ true →
    StandsIf (left_at place x (step 64 state t.End)) ((xs ++ ys) ++ x ∷ [])
left_stands {place} {xs} l ys x state h j =
    let last = whole_ends 64 state j in
    let read = run_reads (ys ++ t.End ∷ []) last.0 (run_last ys t.End state h ∙ last.1) in
    let tree : whole last.0 ≡ kept 64 depth read.0 = ap whole read.2 ∙ kept_whole 64 read.0 in
    rw (last.1, tree) (behind_stands l ys read.0 (before_end ys read.0 read.1) x)

within_stands : {place : Place} {xs : List Token} → Lies place xs → (ys : List Token) (x : Token) (state : State) → run 64 start ys ≡ Some state →
    StandsIf (within 64 place state x) ((xs ++ ys) ++ x ∷ [])
within_stands {place} {xs} l ys x state h = by_test (leaves x state) refl
  where
    is_left : (b : Bool) → stops x ≡ b → (if b then is_whole state else false) ≡ true → is_whole state ≡ true
    is_left true e j = j
    is_left false e j = absurd cc

    by_test : (b : Bool) → leaves x state ≡ b → StandsIf (if b then left_at place x (step 64 state t.End) else option_map (g.In place) (step 64 state x)) ((xs ++ ys) ++ x ∷ [])
    by_test true j = left_stands l ys x state h (is_left (stops x) refl j)
    by_test false j = moved l ys x state h j

first_stands : (x : Token) → StandsIf (option_map (g.In (pl.Item (Some []))) (step 64 (q.Want []) x)) (t.Key k.Select ∷ x ∷ [])
first_stands x = moved (item none) [] x (q.Want []) refl (never_leaves x)

path_stands : (x : Token) → StandsIf (path_word (name_of x)) (t.Key k.Set ∷ x ∷ [])
path_stands x = by_name (name_of x) refl
  where
    by_test : (name : List ℕ) → name_of x ≡ Some name → (b : Bool) → bytes_eq name (codes "search_path") ≡ b → StandsIf (if b then Some (g.Set w.Path) else None) (t.Key k.Set ∷ x ∷ [])
    by_test name is true h = path_named x (is ∙ ap Some ((bytes_eq-Decides name (codes "search_path")).0 h))
    by_test name is false h = tt

    by_name : (name : Option (List ℕ)) → name_of x ≡ name → StandsIf (path_word name) (t.Key k.Set ∷ x ∷ [])
    by_name None is = tt
    by_name (Some name) is = by_test name is (bytes_eq name (codes "search_path")) refl

step_stands : {stage : Stage} {ts : List Token} → Stands stage ts → (x : Token) → StandsIf (stage_step 64 stage x) (ts ++ x ∷ [])
step_stands begin (t.Key k.Insert) = insert_word
step_stands begin (t.Key k.Update) = update_word
step_stands begin (t.Key k.Delete) = delete_word
step_stands begin (t.Key k.Select) = select_word
step_stands begin (t.Key k.Set) = set_word
step_stands begin _ = tt
step_stands insert_word (t.Key k.Into) = insert_into
step_stands insert_word _ = tt
step_stands insert_into x = named_stands (λ table. g.Insert (i.Table table)) x (t.Key k.Insert ∷ t.Key k.Into ∷ x ∷ []) (λ name is. insert_table x is)
step_stands (insert_table y is) (t.Sign s.Open) = column_wanted y is none
step_stands (insert_table y is) _ = tt
step_stands (column_wanted {table = table} {xs = xs} {columns = columns} y is f) x =
    named_stands (λ name. g.Insert (i.ColumnHad table (columns ++ name ∷ []))) x (t.Key k.Insert ∷ t.Key k.Into ∷ y ∷ t.Sign s.Open ∷ (xs ++ x ∷ [])) (λ name known. column_had y is (with_next f (a_name x known)))
step_stands (column_had y is l) (t.Sign s.Comma) = column_wanted y is (some l)
step_stands (column_had y is l) (t.Sign s.Close) = all_columns y is l
step_stands (column_had y is l) _ = tt
step_stands (all_columns y is l) (t.Key k.Values) = moved_to (simp append_assoc) (tuple_wanted y is l none)
step_stands (all_columns y is l) _ = tt
step_stands (tuple_wanted y is l f) (t.Sign s.Open) = moved_to (simp append_assoc) (here (value y is l f none))
step_stands (tuple_wanted y is l f) _ = tt
step_stands (tuple_had y is l rows) (t.Sign s.Comma) = moved_to (simp append_assoc) (tuple_wanted y is l (some rows))
step_stands (tuple_had {table = table} {columns = columns} {rows = rows} y is l read) x =
    end_stands (option_map (stmt.Insert table columns) (kept_all 64 deepest_of rows)) (insert y is l read) (kept_insert 64 table columns rows) x
step_stands update_word x = named_stands (λ table. g.Update (u.Table table)) x (t.Key k.Update ∷ x ∷ []) (λ name is. update_table x is)
step_stands (update_table y is) (t.Key k.Set) = set_wanted y is none
step_stands (update_table y is) _ = tt
step_stands (set_wanted {table = table} {xs = xs} {sets = sets} y is f) x =
    named_stands (λ name. g.Update (u.Named table (kept_all 64 set_depth sets) name)) x (t.Key k.Update ∷ y ∷ t.Key k.Set ∷ (xs ++ x ∷ [])) (λ name known. set_named y x is f known)
step_stands (set_named y z is f known) (t.Sign s.Eq) = moved_to (simp append_assoc) (here (assigned y z is f known))
step_stands (set_named y z is f known) _ = tt
step_stands delete_word (t.Key k.From) = delete_from
step_stands delete_word _ = tt
step_stands delete_from x = named_stands (λ table. g.Main (m.Delete table)) x (t.Key k.Delete ∷ t.Key k.From ∷ x ∷ []) (λ name is. main_had (deleted x is))
step_stands select_word (t.Sign s.Star) = starred
step_stands select_word x = first_stands x
step_stands starred (t.Key k.From) = select_from all_items
step_stands starred _ = tt
step_stands (select_from {xs = xs} {list = list} l) x =
    named_stands (λ table. g.Main (m.Query table (kept 64 items_depth list))) x (t.Key k.Select ∷ ((xs ++ t.Key k.From ∷ []) ++ x ∷ [])) (λ name is. moved_to (simp append_assoc) (main_had (queried x l is)))
step_stands set_word x = path_stands x
step_stands (path_named y is) (t.Key k.To) = version_wanted y is none
step_stands (path_named y is) _ = tt
step_stands (version_wanted {xs = xs} {names = names} y is f) x =
    named_stands (λ name. g.Set (w.Had (names ++ name ∷ []))) x (t.Key k.Set ∷ y ∷ t.Key k.To ∷ (xs ++ x ∷ [])) (λ name known. version_had y is (with_next f (a_name x known)))
step_stands (version_had y is l) (t.Sign s.Comma) = version_wanted y is (some l)
step_stands (version_had {names = names} y is l) x = end_stands (Some (stmt.SetPath names)) (path y is l) refl x
step_stands (main_had {main = main} h) x = main_stands main h x
step_stands (inside {state = state} ys l h o) x = within_stands l ys x state h
step_stands (ended {xs = xs} reads is) t.End = finished (record { tokens = xs; ends = inr (append_assoc xs (t.Sign s.Semicolon ∷ []) (t.End ∷ [])); reads = reads }) is
step_stands (ended reads is) _ = tt
step_stands (finished it is) x = tt

pub run_stands : (stage : Option Stage) (xs ts : List Token) → StandsIf stage ts → StandsIf (runs (stage_step 64) stage xs) (ts ++ xs)
run_stands None xs ts h = subst (λ x. StandsIf x (ts ++ xs)) (sym (runs-none (stage_step 64) xs)) tt
run_stands (Some stage) [] ts h = rw append-nil h
run_stands (Some stage) (x ∷ xs) ts h = rw append_assoc at (run_stands (stage_step 64 stage x) xs (ts ++ x ∷ []) (step_stands h x))

-- ---- what a stage can still become

completing : (ts us : List Token) (a : Stmt) → ReadsStmt (ts ++ us) a → ViableStmt ts
completing ts us a reads = record { more = us ++ t.End ∷ []; tree = a; text = record { tokens = ts ++ us; ends = inl (sym (append_assoc ts us (t.End ∷ []))); reads = reads } }

abbrev zero : Expr
zero = e.Lit (v.Int (pos 0))

zero_reads : Reads 0 (t.Int 0 ∷ []) zero
zero_reads = int (omega arith)

abbrev a_letter : Token
a_letter = t.Name (codes "a")

letter_names : name_of a_letter ≡ Some (codes "a")
letter_names = refl

letter_reads : ReadsName (a_letter ∷ []) (codes "a")
letter_reads = a_name a_letter letter_names

zero_tuple : ReadsTuple (t.Sign s.Open ∷ t.Int 0 ∷ t.Sign s.Close ∷ []) (zero ∷ [])
zero_tuple = a_tuple (first zero_reads)

letter_set : ReadsSet (a_letter ∷ t.Sign s.Eq ∷ t.Int 0 ∷ []) (codes "a", zero)
letter_set = a_set a_letter letter_names zero_reads

-- an expression in its place, and what is missing behind it
record Around (ts : List Token) : Type 0 where
  missing : List Token
  tree : Stmt
  reads : ReadsStmt (ts ++ missing) tree

around : {place : Place} {xs : List Token} → Lies place xs → (ys : List Token) (a : Expr) → Reads 0 ys a → Around (xs ++ ys)
around (value {table = table} {columns = columns} {rows = rows} {row = row} y is l f vals) ys a reads =
    record { missing = t.Sign s.Close ∷ []; tree = stmt.Insert table columns (rows ++ (row ++ a ∷ []) ∷ []); reads = regrouped (simp (append_assoc, append-nil)) (insert y is l (with_next f (a_tuple (with_next vals reads)))) }
around (assigned {table = table} {name = name} {sets = sets} y z is f named) ys a reads =
    record { missing = []; tree = stmt.Update table (sets ++ (name, a) ∷ []) None; reads = regrouped (simp (append_assoc, append-nil)) (update y is (with_next f (a_set z named reads)) no_filter) }
around (item {list = list} f) ys a reads =
    record { missing = t.Key k.From ∷ a_letter ∷ []; tree = stmt.Query (codes "a") (items.Listed (list ++ a ∷ [])) None; reads = regrouped (simp (append_assoc, append-nil)) (select a_letter (listed (with_next f reads)) letter_names no_filter) }
around (filtered {main = main} {xs = xs} h) ys a reads =
    let n = headed h (a_filter reads) in record { missing = []; tree = n.tree; reads = regrouped (simp (append_assoc, append-nil)) n.reads }

-- the end of a text that goes on behind these tokens
record Cut (ys more tokens : List Token) : Type 0 where
  rest : List Token
  ends : more ≡ rest ++ t.End ∷ []
  whole : tokens ≡ ys ++ rest

cut : (ys more tokens : List Token) → ys ++ more ≡ tokens ++ t.End ∷ [] → (ys ≡ tokens ++ t.End ∷ []) ⊎ Cut ys more tokens
cut [] more tokens h = inr (record { rest = tokens; ends = h; whole = refl })
cut (y ∷ []) [] [] h = inl cc
cut (y ∷ []) (z ∷ more) [] h = absurd cc
cut (y ∷ z ∷ ys) more [] h = absurd cc
cut (y ∷ ys) more (z ∷ tokens) h = let rest : ys ++ more ≡ tokens ++ t.End ∷ [] = cc in let same : y ≡ z = cc in by_cut same (cut ys more tokens rest)
  where
    by_cut : y ≡ z → (ys ≡ tokens ++ t.End ∷ []) ⊎ Cut ys more tokens → (y ∷ ys ≡ z ∷ (tokens ++ t.End ∷ [])) ⊎ Cut (y ∷ ys) more (z ∷ tokens)
    by_cut same (inl e) = inl cc
    by_cut same (inr c) = inr (record { rest = c.rest; ends = c.ends; whole = ap (λ x. x ∷ tokens) (sym same) ∙ ap (λ xs. y ∷ xs) c.whole })

inside_viable : {place : Place} {xs : List Token} → Lies place xs → (ys : List Token) (state : State) → run 64 start ys ≡ Some state → IsOpen state → ViableStmt (xs ++ ys)
inside_viable {place} {xs} l ys state h o = by_cut (cut ys w.more w.text.tokens w.text.ends)
  where
    w : Viable ys
    w = run_viable ys state h

    by_cut : (ys ≡ w.text.tokens ++ t.End ∷ []) ⊎ Cut ys w.more w.text.tokens → ViableStmt (xs ++ ys)
    by_cut (inl e) =
        let made = text_runs 64 (omega arith) ys w.tree (record { tokens = w.text.tokens; ends = e; reads = w.text.reads }) in
        let same : state ≡ q.Done (cap 64 w.tree) = cc in absurd (subst IsOpen same o)
    by_cut (inr c) =
        let reads : Reads 0 (ys ++ c.rest) w.tree = rw c.whole at w.text.reads in
        let n = around l (ys ++ c.rest) w.tree reads in
        completing (xs ++ ys) (c.rest ++ n.missing) n.tree (regrouped (simp append_assoc) n.reads)

pub stage_viable : {stage : Stage} {ts : List Token} → Stands stage ts → ViableStmt ts
stage_viable begin = completing [] (t.Key k.Delete ∷ t.Key k.From ∷ a_letter ∷ []) _ (delete a_letter letter_names no_filter)
stage_viable insert_word = completing (t.Key k.Insert ∷ []) (t.Key k.Into ∷ a_letter ∷ t.Sign s.Open ∷ a_letter ∷ t.Sign s.Close ∷ t.Key k.Values ∷ t.Sign s.Open ∷ t.Int 0 ∷ t.Sign s.Close ∷ []) _ (insert a_letter letter_names (first letter_reads) (first zero_tuple))
stage_viable insert_into = completing (t.Key k.Insert ∷ t.Key k.Into ∷ []) (a_letter ∷ t.Sign s.Open ∷ a_letter ∷ t.Sign s.Close ∷ t.Key k.Values ∷ t.Sign s.Open ∷ t.Int 0 ∷ t.Sign s.Close ∷ []) _ (insert a_letter letter_names (first letter_reads) (first zero_tuple))
stage_viable (insert_table x is) = completing (t.Key k.Insert ∷ t.Key k.Into ∷ x ∷ []) (t.Sign s.Open ∷ a_letter ∷ t.Sign s.Close ∷ t.Key k.Values ∷ t.Sign s.Open ∷ t.Int 0 ∷ t.Sign s.Close ∷ []) _ (insert x is (first letter_reads) (first zero_tuple))
stage_viable (column_wanted {xs = xs} x is f) = completing (t.Key k.Insert ∷ t.Key k.Into ∷ x ∷ t.Sign s.Open ∷ xs) (a_letter ∷ t.Sign s.Close ∷ t.Key k.Values ∷ t.Sign s.Open ∷ t.Int 0 ∷ t.Sign s.Close ∷ []) _ (regrouped (simp (append_assoc, append-nil)) (insert x is (with_next f letter_reads) (first zero_tuple)))
stage_viable (column_had {xs = xs} x is l) = completing (t.Key k.Insert ∷ t.Key k.Into ∷ x ∷ t.Sign s.Open ∷ xs) (t.Sign s.Close ∷ t.Key k.Values ∷ t.Sign s.Open ∷ t.Int 0 ∷ t.Sign s.Close ∷ []) _ (insert x is l (first zero_tuple))
stage_viable (all_columns {xs = xs} x is l) = completing (t.Key k.Insert ∷ t.Key k.Into ∷ x ∷ t.Sign s.Open ∷ (xs ++ t.Sign s.Close ∷ [])) (t.Key k.Values ∷ t.Sign s.Open ∷ t.Int 0 ∷ t.Sign s.Close ∷ []) _ (regrouped (simp (append_assoc, append-nil)) (insert x is l (first zero_tuple)))
stage_viable (tuple_wanted {xs = xs} {ys = ys} x is l f) = completing (t.Key k.Insert ∷ t.Key k.Into ∷ x ∷ t.Sign s.Open ∷ (xs ++ t.Sign s.Close ∷ t.Key k.Values ∷ ys)) (t.Sign s.Open ∷ t.Int 0 ∷ t.Sign s.Close ∷ []) _ (regrouped (simp (append_assoc, append-nil)) (insert x is l (with_next f zero_tuple)))
stage_viable (tuple_had {xs = xs} {ys = ys} x is l rows) = completing (t.Key k.Insert ∷ t.Key k.Into ∷ x ∷ t.Sign s.Open ∷ (xs ++ t.Sign s.Close ∷ t.Key k.Values ∷ ys)) [] _ (regrouped (simp (append_assoc, append-nil)) (insert x is l rows))
stage_viable update_word = completing (t.Key k.Update ∷ []) (a_letter ∷ t.Key k.Set ∷ a_letter ∷ t.Sign s.Eq ∷ t.Int 0 ∷ []) _ (update a_letter letter_names (first letter_set) no_filter)
stage_viable (update_table x is) = completing (t.Key k.Update ∷ x ∷ []) (t.Key k.Set ∷ a_letter ∷ t.Sign s.Eq ∷ t.Int 0 ∷ []) _ (update x is (first letter_set) no_filter)
stage_viable (set_wanted {xs = xs} x is f) = completing (t.Key k.Update ∷ x ∷ t.Key k.Set ∷ xs) (a_letter ∷ t.Sign s.Eq ∷ t.Int 0 ∷ []) _ (regrouped (simp (append_assoc, append-nil)) (update x is (with_next f letter_set) no_filter))
stage_viable (set_named {xs = xs} x y is f known) = completing (t.Key k.Update ∷ x ∷ t.Key k.Set ∷ (xs ++ y ∷ [])) (t.Sign s.Eq ∷ t.Int 0 ∷ []) _ (regrouped (simp (append_assoc, append-nil)) (update x is (with_next f (a_set y known zero_reads)) no_filter))
stage_viable delete_word = completing (t.Key k.Delete ∷ []) (t.Key k.From ∷ a_letter ∷ []) _ (delete a_letter letter_names no_filter)
stage_viable delete_from = completing (t.Key k.Delete ∷ t.Key k.From ∷ []) (a_letter ∷ []) _ (delete a_letter letter_names no_filter)
stage_viable select_word = completing (t.Key k.Select ∷ []) (t.Sign s.Star ∷ t.Key k.From ∷ a_letter ∷ []) _ (select a_letter all_items letter_names no_filter)
stage_viable starred = completing (t.Key k.Select ∷ t.Sign s.Star ∷ []) (t.Key k.From ∷ a_letter ∷ []) _ (select a_letter all_items letter_names no_filter)
stage_viable (select_from {xs = xs} l) = completing (t.Key k.Select ∷ (xs ++ t.Key k.From ∷ [])) (a_letter ∷ []) _ (regrouped (simp (append_assoc, append-nil)) (select a_letter l letter_names no_filter))
stage_viable set_word = completing (t.Key k.Set ∷ []) (t.Name (codes "search_path") ∷ t.Key k.To ∷ a_letter ∷ []) _ (path (t.Name (codes "search_path")) refl (first letter_reads))
stage_viable (path_named x is) = completing (t.Key k.Set ∷ x ∷ []) (t.Key k.To ∷ a_letter ∷ []) _ (path x is (first letter_reads))
stage_viable (version_wanted {xs = xs} x is f) = completing (t.Key k.Set ∷ x ∷ t.Key k.To ∷ xs) (a_letter ∷ []) _ (path x is (with_next f letter_reads))
stage_viable (version_had {xs = xs} x is l) = completing (t.Key k.Set ∷ x ∷ t.Key k.To ∷ xs) [] _ (regrouped (simp (append_assoc, append-nil)) (path x is l))
stage_viable (main_had {xs = xs} h) = let n = no_filter_behind h in completing xs [] n.tree (regrouped (simp append-nil) n.reads)
stage_viable (inside {state = state} ys l h o) = inside_viable l ys state h o
stage_viable (ended {xs = xs} {a = a} reads is) = record { more = t.End ∷ []; tree = a; text = record { tokens = xs; ends = inr (append_assoc xs (t.Sign s.Semicolon ∷ []) (t.End ∷ [])); reads = reads } }
stage_viable (finished {xs = xs} {a = a} it is) = record { more = []; tree = a; text = rw append-nil it }
