-- Each statement that the grammar has is gone through, to its tree.
use Rattle.std.proofs.Common.{◌≡◌, ℕ, ◌+◌, ◌≤◌, max, List, [], ◌∷◌, ◌++◌, Bool, true, false, ◌&&◌, Option, Some, None, if◌then◌else◌, refl, sym, ◌∙◌, ap, subst, arith, append_assoc, append-nil, nat_le, codes, ◌⊎◌, inl, inr}
use Rattle.std.specs.Option.{option_map}
use Rattle.std.specs.Str.{bytes_eq}
use Rattle.std.proofs.lemmas.Slice.Eq.{bytes_eq-Decides}
use Rattle.std.proofs.lemmas.Bool.{le-leb, lt-leb, leb-true, leb-false}
use Rattle.sql_base.specs.declared.exprs.Expr.{Expr}
use Rattle.sql_base.specs.declared.exprs.Expr.TheVariants as e
use Rattle.sql_base.specs.declared.exprs.Func.{Func}
use Rattle.sql_base.specs.declared.stmts.Stmt.{Stmt}
use Rattle.sql_base.specs.declared.stmts.Stmt.TheVariants as stmt
use Rattle.sql_base.specs.declared.stmts.Items.{Items}
use Rattle.sql_base.specs.Tree.{depth, deepest_of}
use Rattle.sql_text.specs.declared.keys.Key.TheVariants as k
use Rattle.sql_text.specs.declared.tokens.Sign.TheVariants as s
use Rattle.sql_text.specs.declared.tokens.Token.{Token}
use Rattle.sql_text.specs.declared.tokens.Token.TheVariants as t
use Rattle.sql_parse.specs.declared.machine.Part.{Part}
use Rattle.sql_parse.specs.declared.machine.Open.{Open}
use Rattle.sql_parse.specs.declared.machine.State.{State}
use Rattle.sql_parse.specs.declared.machine.State.TheVariants as q
use Rattle.sql_parse.specs.declared.stages.Main.{Main}
use Rattle.sql_parse.specs.declared.stages.Main.TheVariants as m
use Rattle.sql_parse.specs.declared.stages.Place.{Place}
use Rattle.sql_parse.specs.declared.stages.Place.TheVariants as pl
use Rattle.sql_parse.specs.declared.stages.InsertStage.TheVariants as i
use Rattle.sql_parse.specs.declared.stages.UpdateStage.TheVariants as u
use Rattle.sql_parse.specs.declared.stages.SelectStage.TheVariants as r
use Rattle.sql_parse.specs.declared.stages.PathStage.TheVariants as w
use Rattle.sql_parse.specs.declared.stages.Stage.{Stage}
use Rattle.sql_parse.specs.declared.stages.Stage.TheVariants as g
use Rattle.sql_parse.specs.Grammar.{name_of, Reads, Listed, ReadsName, ReadsTuple, ReadsSet, ReadsFilter, ReadsItems, ReadsStmt, IsStmt, first, next, a_name, a_tuple, a_set, no_filter, a_filter, all_items, listed, insert, update, delete, select, path}
use Rattle.sql_parse.specs.Machine.{is_inner, is_flat, hole_of, leaf, filled, level_of, settled, by_close, by_comma, by_last, step, run}
use Rattle.sql_parse.specs.Reading.{items_depth, filter_depth, set_depth, stmt_depth}
use Rattle.sql_parse.specs.Stages.{with_last, completed, ended_then, main_then, values_then, sets_then, items_then, behind, stops, is_whole, leaves, left_at, within, insert_then, select_then, path_word, set_then, stage_step}
use Rattle.sql_parse.proofs.Capped.{cap}
use Rattle.sql_parse.proofs.Complete.{run-append, run-none, text_runs}
use Rattle.sql_parse.proofs.Runs.{goes, runs, runs-append}
use Rattle.sql_parse.proofs.Kept.{kept, kept_all, kept_whole, kept_nothing, kept_last, kept_set, kept_items, kept_star, kept_filter, kept_no_filter, kept_insert, kept_path, kept_update, kept_delete, kept_query}

none_some : {X : Type 0} {x : X} → None ≡ Some x → ⊥
none_some h = cc

-- ---- an expression that may end

inner_hole : (f : Open) → is_inner f ≡ true → nat_le (hole_of f) 0 ≡ false
inner_hole f h = lt-leb (hole_of f) 0 (leb-true 1 (hole_of f) h)

outer_hole : (f : Open) → is_inner f ≡ false → nat_le (hole_of f) 0 ≡ true
outer_hole f h = le-leb (hole_of f) 0 (omega (arith, leb-false 1 (hole_of f) h))

-- Where nothing but operators is open, nothing is open once they are filled.
flat_settled : (most : ℕ) (st : List Open) (a : Part) (l : ℕ) → is_flat st ≡ true → (settled most 0 st a l).stack ≡ []
flat_settled most [] a l h = refl
flat_settled most (f ∷ st) a l h = by_test (is_inner f) refl h (flat_settled most st (filled most f a) (level_of f))
  where
    by_test : (b : Bool) → is_inner f ≡ b → b && is_flat st ≡ true → (is_flat st ≡ true → (settled most 0 st (filled most f a) (level_of f)).stack ≡ []) → (settled most 0 (f ∷ st) a l).stack ≡ []
    by_test true e h deeper = rw (inner_hole f e) (deeper h)
    by_test false e h deeper = absurd cc

-- And where something else is, it is no end.
deep_settled : (most : ℕ) (st : List Open) (a : Part) (l : ℕ) → is_flat st ≡ false → by_last (settled most 0 st a l).stack (settled most 0 st a l).tree ≡ None
deep_settled most [] a l h = absurd cc
deep_settled most (f ∷ st) a l h = by_test (is_inner f) refl h (deep_settled most st (filled most f a) (level_of f))
  where
    by_test : (b : Bool) → is_inner f ≡ b → b && is_flat st ≡ false →
        (is_flat st ≡ false → by_last (settled most 0 st (filled most f a) (level_of f)).stack (settled most 0 st (filled most f a) (level_of f)).tree ≡ None) →
        by_last (settled most 0 (f ∷ st) a l).stack (settled most 0 (f ∷ st) a l).tree ≡ None
    by_test true e h deeper = rw (inner_hole f e) (deeper h)
    by_test false e h deeper = rw (outer_hole f e) refl

flat_ends : (most : ℕ) (st : List Open) (a : Part) (l : ℕ) → is_flat st ≡ true → (b : Part) × (by_last (settled most 0 st a l).stack (settled most 0 st a l).tree ≡ Some (q.Done b))
flat_ends most st a l h = let x = settled most 0 st a l in (x.tree, ap (λ st. by_last st x.tree) (flat_settled most st a l h))

pub whole_ends : (most : ℕ) (state : State) → is_whole state ≡ true → (b : Part) × (step most state t.End ≡ Some (q.Done b))
whole_ends most (q.Have st a l) h = flat_ends most st a l h
whole_ends most (q.Named st f name) h = flat_ends most st (leaf (e.Col name)) 11 h
whole_ends most (q.Want st) h = absurd cc
whole_ends most (q.Minus st) h = absurd cc
whole_ends most (q.Is st a) h = absurd cc
whole_ends most (q.IsNot st a) h = absurd cc
whole_ends most (q.Typed st a) h = absurd cc
whole_ends most (q.Cast st) h = absurd cc
whole_ends most (q.CastAs st a) h = absurd cc
whole_ends most (q.CastTo st a to) h = absurd cc
whole_ends most (q.Case st) h = absurd cc
whole_ends most (q.Done a) h = absurd cc

pub part_goes_on : (most : ℕ) (state : State) → is_whole state ≡ false → step most state t.End ≡ None
part_goes_on most (q.Have st a l) h = deep_settled most st a l h
part_goes_on most (q.Named st f name) h = deep_settled most st (leaf (e.Col name)) 11 h
part_goes_on most (q.Want st) h = refl
part_goes_on most (q.Minus st) h = refl
part_goes_on most (q.Is st a) h = refl
part_goes_on most (q.IsNot st a) h = refl
part_goes_on most (q.Typed st a) h = refl
part_goes_on most (q.Cast st) h = refl
part_goes_on most (q.CastAs st a) h = refl
part_goes_on most (q.CastTo st a to) h = refl
part_goes_on most (q.Case st) h = refl
part_goes_on most (q.Done a) h = refl

-- a token that stands behind a whole expression can't be gone through in it
abbrev Behind : ℕ → State → Token → Type 0
Behind most state x = (step most state x ≡ None) ⊎ ((b : Part) × (step most state x ≡ Some (q.Done b)))

flat_behind : (most : ℕ) (st : List Open) (a : Part) (l : ℕ) (x : Token) → is_flat st ≡ true → stops x ≡ true → Behind most (q.Have st a l) x
flat_behind most st a l (t.Sign s.Comma) h j = let y = settled most 0 st a l in inl (ap (λ st. by_comma st y.tree) (flat_settled most st a l h))
flat_behind most st a l (t.Sign s.Close) h j = let y = settled most 0 st a l in inl (ap (λ st. by_close most st y.tree) (flat_settled most st a l h))
flat_behind most st a l (t.Sign s.Semicolon) h j = inl refl
flat_behind most st a l (t.Key k.From) h j = inl refl
flat_behind most st a l (t.Key k.Where) h j = inl refl
flat_behind most st a l t.End h j = inr (flat_ends most st a l h)
flat_behind most st a l _ h j = absurd cc

-- A name of a function is a column before such a token.
named_behind : (most : ℕ) (st : List Open) (f : Func) (name : List ℕ) (x : Token) → is_flat st ≡ true → stops x ≡ true → Behind most (q.Named st f name) x
named_behind most st f name (t.Sign s.Comma) h j = flat_behind most st (leaf (e.Col name)) 11 (t.Sign s.Comma) h j
named_behind most st f name (t.Sign s.Close) h j = flat_behind most st (leaf (e.Col name)) 11 (t.Sign s.Close) h j
named_behind most st f name (t.Sign s.Semicolon) h j = inl refl
named_behind most st f name (t.Key k.From) h j = inl refl
named_behind most st f name (t.Key k.Where) h j = inl refl
named_behind most st f name t.End h j = inr (flat_ends most st (leaf (e.Col name)) 11 h)
named_behind most st f name _ h j = absurd cc

whole_behind : (most : ℕ) (state : State) (x : Token) → is_whole state ≡ true → stops x ≡ true → Behind most state x
whole_behind most (q.Have st a l) x h j = flat_behind most st a l x h j
whole_behind most (q.Named st f name) x h j = named_behind most st f name x h j
whole_behind most (q.Want st) x h j = absurd cc
whole_behind most (q.Minus st) x h j = absurd cc
whole_behind most (q.Is st a) x h j = absurd cc
whole_behind most (q.IsNot st a) x h j = absurd cc
whole_behind most (q.Typed st a) x h j = absurd cc
whole_behind most (q.Cast st) x h j = absurd cc
whole_behind most (q.CastAs st a) x h j = absurd cc
whole_behind most (q.CastTo st a to) x h j = absurd cc
whole_behind most (q.Case st) x h j = absurd cc
whole_behind most (q.Done a) x h j = absurd cc

leaves_behind : (most : ℕ) (state : State) (x : Token) → leaves x state ≡ true → Behind most state x
leaves_behind most state x h = by_test (stops x) refl h
  where
    by_test : (b : Bool) → stops x ≡ b → (if b then is_whole state else false) ≡ true → Behind most state x
    by_test true j h = whole_behind most state x h j
    by_test false j h = absurd cc

-- the end isn't reached
abbrev pub IsOpen : State → Type 0
IsOpen (q.Done a) = ⊥
IsOpen _ = Unit {0}

open_before : (most : ℕ) (state : State) (b : Part) → step most state t.End ≡ Some (q.Done b) → IsOpen state
open_before most (q.Done a) b h = absurd cc
open_before most _ b h = tt

abbrev OpenIf : Option State → Type 0
OpenIf None = Unit {0}
OpenIf (Some x) = IsOpen x

-- After the end nothing is gone through.
done_stays : (most : ℕ) (b : Part) (ys : List Token) (last : State) → run most (Some (q.Done b)) ys ≡ Some last → IsOpen last → ⊥
done_stays most b [] last h o = subst OpenIf (sym h) o
done_stays most b (y ∷ ys) last h o = let none : run most None ys ≡ None = run-none most ys in absurd cc

stays_within : (most : ℕ) (state new last : State) (y : Token) (ys : List Token) → step most state y ≡ Some new → run most (Some new) ys ≡ Some last → IsOpen last → leaves y state ≡ false
stays_within most state new last y ys e h o = by_test (leaves y state) refl
  where
    by_behind : Behind most state y → ⊥
    by_behind (inl none) = absurd cc
    by_behind (inr (b, done)) = let same : Some new ≡ Some (q.Done b) = sym e ∙ done in done_stays most b ys last (ap (λ x. run most x ys) (sym same) ∙ h) o

    by_test : (b : Bool) → leaves y state ≡ b → leaves y state ≡ false
    by_test true j = absurd (by_behind (leaves_behind most state y j))
    by_test false j = j

-- What an expression goes through, the statement around it goes through.
within_runs : (most : ℕ) (place : Place) (ys : List Token) (state last : State) → run most (Some state) ys ≡ Some last → IsOpen last →
    runs (stage_step most) (Some (g.In place state)) ys ≡ Some (g.In place last)
within_runs most place [] state last h o = let same : state ≡ last = cc in ap (λ x. Some (g.In place x)) same
within_runs most place (y ∷ ys) state last h o = by_next (step most state y) refl h (λ new h. within_runs most place ys new last h o)
  where
    by_next : (x : Option State) → step most state y ≡ x → run most x ys ≡ Some last →
        ((new : State) → run most (Some new) ys ≡ Some last → runs (stage_step most) (Some (g.In place new)) ys ≡ Some (g.In place last)) →
        runs (stage_step most) (Some (g.In place state)) (y ∷ ys) ≡ Some (g.In place last)
    by_next None e h deeper = let none : run most None ys ≡ None = run-none most ys in absurd cc
    by_next (Some new) e h deeper =
        let stays : leaves y state ≡ false = stays_within most state new last y ys e h o in
        let one : within most place state y ≡ Some (g.In place new) = rw (stays, e) refl in
        ap (λ x. runs (stage_step most) x ys) one ∙ deeper new h

-- An expression and the token behind it.
expression_runs : (most : ℕ) (room : 1 ≤ most) (place : Place) (ys : List Token) (a : Expr) → Reads 0 ys a → (x : Token) (rest : List Token) → stops x ≡ true →
    runs (stage_step most) (Some (g.In place (q.Want []))) (ys ++ x ∷ rest) ≡ runs (stage_step most) (behind place (kept most depth a) x) rest
expression_runs most room place ys a reads x rest h = by_state (run most (Some (q.Want [])) ys) refl
  where
    ends : run most (run most (Some (q.Want [])) ys) (t.End ∷ []) ≡ Some (q.Done (cap most a))
    ends = sym (run-append most (Some (q.Want [])) ys (t.End ∷ [])) ∙ text_runs most room (ys ++ t.End ∷ []) a (record { tokens = ys; ends = refl; reads = reads })

    left : (state : State) → step most state t.End ≡ Some (q.Done (cap most a)) → within most place state x ≡ behind place (kept most depth a) x
    left state e = by_test (is_whole state) refl
      where
        by_test : (b : Bool) → is_whole state ≡ b → within most place state x ≡ behind place (kept most depth a) x
        by_test true j = rw (h, j, e, kept_whole most a) refl
        by_test false j = absurd (none_some (sym (part_goes_on most state j) ∙ e))

    by_state : (found : Option State) → run most (Some (q.Want [])) ys ≡ found →
        runs (stage_step most) (Some (g.In place (q.Want []))) (ys ++ x ∷ rest) ≡ runs (stage_step most) (behind place (kept most depth a) x) rest
    by_state None e = let none : run most (run most (Some (q.Want [])) ys) (t.End ∷ []) ≡ None = ap (λ o. run most o (t.End ∷ [])) e in absurd (none_some (sym none ∙ ends))
    by_state (Some state) e =
        let last : step most state t.End ≡ Some (q.Done (cap most a)) = sym (ap (λ o. run most o (t.End ∷ [])) e) ∙ ends in
        runs-append (stage_step most) (Some (g.In place (q.Want []))) ys (x ∷ rest)
        ∙ ap (λ o. runs (stage_step most) o (x ∷ rest)) (within_runs most place ys (q.Want []) state e (open_before most state (cap most a) last))
        ∙ ap (λ o. runs (stage_step most) o rest) (left state last)

-- ---- lists

module _ {X : Type 0} {ReadsOne : List Token → X → Type 0} (most : ℕ) (wanted : List X → Stage) (after : List X → Token → Option Stage)
    (one : (list : List X) (ys : List Token) (a : X) (x : Token) (rest : List Token) → ReadsOne ys a → stops x ≡ true → runs (stage_step most) (Some (wanted list)) (ys ++ x ∷ rest) ≡ runs (stage_step most) (after (list ++ a ∷ []) x) rest)
    (comma : (list : List X) → after list (t.Sign s.Comma) ≡ Some (wanted list)) where
  listed_runs : {xs : List Token} {list : List X} → Listed ReadsOne xs list → (x : Token) (rest : List Token) → stops x ≡ true →
      runs (stage_step most) (Some (wanted [])) (xs ++ x ∷ rest) ≡ runs (stage_step most) (after list x) rest
  listed_runs (first {xs = xs} {a = a} reads) x rest h = one [] xs a x rest reads h
  listed_runs (next {xs = xs} {ys = ys} {list = list} {a = a} before reads) x rest h =
      rw append_assoc (listed_runs before (t.Sign s.Comma) (ys ++ x ∷ rest) refl
      ∙ ap (λ o. runs (stage_step most) o (ys ++ x ∷ rest)) (comma list)
      ∙ one list ys a x rest reads h)

module _ (most : ℕ) (room : 1 ≤ most) where
  values_run : (table : List ℕ) (columns : List (List ℕ)) (rows : Option (List (List Expr))) {xs : List Token} {row : List Expr} → Listed (Reads 0) xs row → (x : Token) (rest : List Token) → stops x ≡ true →
      runs (stage_step most) (Some (g.In (pl.Tuple table columns rows (kept_all most depth [])) (q.Want []))) (xs ++ x ∷ rest) ≡ runs (stage_step most) (values_then table columns rows (kept_all most depth row) x) rest
  values_run table columns rows l = listed_runs most (λ row. g.In (pl.Tuple table columns rows (kept_all most depth row)) (q.Want [])) (λ row x. values_then table columns rows (kept_all most depth row) x)
      (λ row ys a x rest reads h. expression_runs most room (pl.Tuple table columns rows (kept_all most depth row)) ys a reads x rest h
      ∙ ap (λ row. runs (stage_step most) (values_then table columns rows row x) rest) (kept_last most depth row a))
      (λ row. refl) l

  items_run : {xs : List Token} {list : List Expr} → Listed (Reads 0) xs list → (x : Token) (rest : List Token) → stops x ≡ true →
      runs (stage_step most) (Some (g.In (pl.Item (kept_all most depth [])) (q.Want []))) (xs ++ x ∷ rest) ≡ runs (stage_step most) (items_then (kept_all most depth list) x) rest
  items_run l = listed_runs most (λ list. g.In (pl.Item (kept_all most depth list)) (q.Want [])) (λ list x. items_then (kept_all most depth list) x)
      (λ list ys a x rest reads h. expression_runs most room (pl.Item (kept_all most depth list)) ys a reads x rest h
      ∙ ap (λ list. runs (stage_step most) (items_then list x) rest) (kept_last most depth list a))
      (λ list. refl) l

  set_runs : (table : List ℕ) (sets : List (List ℕ × Expr)) (ys : List Token) (set : List ℕ × Expr) (x : Token) (rest : List Token) → ReadsSet ys set → stops x ≡ true →
      runs (stage_step most) (Some (g.Update (u.Wanted table (kept_all most set_depth sets)))) (ys ++ x ∷ rest) ≡ runs (stage_step most) (sets_then table (kept_all most set_depth (sets ++ set ∷ [])) x) rest
  set_runs table sets _ _ x rest (a_set y {name = name} {xs = ys} {a = a} is reads) h =
      ap (λ o. runs (stage_step most) (goes (stage_step most) (option_map (λ name. g.Update (u.Named table (kept_all most set_depth sets) name)) o) (t.Sign s.Eq)) (ys ++ x ∷ rest)) is
      ∙ expression_runs most room (pl.Assigned table (kept_all most set_depth sets) name) ys a reads x rest h
      ∙ ap (λ set. runs (stage_step most) (sets_then table (with_last (kept_all most set_depth sets) set) x) rest) (kept_set most name a)
      ∙ ap (λ sets. runs (stage_step most) (sets_then table sets x) rest) (kept_last most set_depth sets (name, a))

  sets_run : (table : List ℕ) {xs : List Token} {sets : List (List ℕ × Expr)} → Listed ReadsSet xs sets → (x : Token) (rest : List Token) → stops x ≡ true →
      runs (stage_step most) (Some (g.Update (u.Wanted table (kept_all most set_depth [])))) (xs ++ x ∷ rest) ≡ runs (stage_step most) (sets_then table (kept_all most set_depth sets) x) rest
  sets_run table l = listed_runs most (λ sets. g.Update (u.Wanted table (kept_all most set_depth sets))) (λ sets x. sets_then table (kept_all most set_depth sets) x) (set_runs table) (λ sets. refl) l

  column_runs : (table : List ℕ) (columns : List (List ℕ)) (ys : List Token) (name : List ℕ) (x : Token) (rest : List Token) → ReadsName ys name → stops x ≡ true →
      runs (stage_step most) (Some (g.Insert (i.ColumnWanted table columns))) (ys ++ x ∷ rest) ≡ runs (stage_step most) (insert_then (i.ColumnHad table (columns ++ name ∷ [])) x) rest
  column_runs table columns _ _ x rest (a_name y is) h = ap (λ o. runs (stage_step most) (goes (stage_step most) (option_map (λ name. g.Insert (i.ColumnHad table (columns ++ name ∷ []))) o) x) rest) is

  columns_run : (table : List ℕ) {xs : List Token} {columns : List (List ℕ)} → Listed ReadsName xs columns → (x : Token) (rest : List Token) → stops x ≡ true →
      runs (stage_step most) (Some (g.Insert (i.ColumnWanted table []))) (xs ++ x ∷ rest) ≡ runs (stage_step most) (insert_then (i.ColumnHad table columns) x) rest
  columns_run table l = listed_runs most (λ columns. g.Insert (i.ColumnWanted table columns)) (λ columns x. insert_then (i.ColumnHad table columns) x) (column_runs table) (λ columns. refl) l

  version_runs : (names : List (List ℕ)) (ys : List Token) (name : List ℕ) (x : Token) (rest : List Token) → ReadsName ys name → stops x ≡ true →
      runs (stage_step most) (Some (g.Set (w.Wanted names))) (ys ++ x ∷ rest) ≡ runs (stage_step most) (set_then (w.Had (names ++ name ∷ [])) x) rest
  version_runs names _ _ x rest (a_name y is) h = ap (λ o. runs (stage_step most) (goes (stage_step most) (option_map (λ name. g.Set (w.Had (names ++ name ∷ []))) o) x) rest) is

  versions_run : {xs : List Token} {names : List (List ℕ)} → Listed ReadsName xs names → (x : Token) (rest : List Token) → stops x ≡ true →
      runs (stage_step most) (Some (g.Set (w.Wanted []))) (xs ++ x ∷ rest) ≡ runs (stage_step most) (set_then (w.Had names) x) rest
  versions_run l = listed_runs most (λ names. g.Set (w.Wanted names)) (λ names x. set_then (w.Had names) x) version_runs (λ names. refl) l

  tuple_runs : (table : List ℕ) (columns : List (List ℕ)) (rows : List (List Expr)) (ys : List Token) (row : List Expr) (x : Token) (rest : List Token) → ReadsTuple ys row → stops x ≡ true →
      runs (stage_step most) (Some (g.Insert (i.TupleWanted table columns (kept_all most deepest_of rows)))) (ys ++ x ∷ rest) ≡ runs (stage_step most) (insert_then (i.TupleHad table columns (kept_all most deepest_of (rows ++ row ∷ []))) x) rest
  tuple_runs table columns rows _ row x rest (a_tuple {xs = ys} l) h =
      rw append_assoc (ap (λ row. runs (stage_step most) (Some (g.In (pl.Tuple table columns (kept_all most deepest_of rows) row) (q.Want []))) (ys ++ t.Sign s.Close ∷ x ∷ rest)) (sym (kept_nothing most depth))
      ∙ values_run table columns (kept_all most deepest_of rows) l (t.Sign s.Close) (x ∷ rest) refl
      ∙ ap (λ rows. runs (stage_step most) (insert_then (i.TupleHad table columns rows) x) rest) (kept_last most deepest_of rows row))

  tuples_run : (table : List ℕ) (columns : List (List ℕ)) {xs : List Token} {rows : List (List Expr)} → Listed ReadsTuple xs rows → (x : Token) (rest : List Token) → stops x ≡ true →
      runs (stage_step most) (Some (g.Insert (i.TupleWanted table columns (kept_all most deepest_of [])))) (xs ++ x ∷ rest) ≡ runs (stage_step most) (insert_then (i.TupleHad table columns (kept_all most deepest_of rows)) x) rest
  tuples_run table columns l = listed_runs most (λ rows. g.Insert (i.TupleWanted table columns (kept_all most deepest_of rows))) (λ rows x. insert_then (i.TupleHad table columns (kept_all most deepest_of rows)) x) (tuple_runs table columns) (λ rows. refl) l

-- ---- statements

-- what stands behind a statement: a semicolon, or the end
abbrev last_token : Bool → Token
last_token true = t.Sign s.Semicolon
last_token false = t.End

last_stops : (b : Bool) → stops (last_token b) ≡ true
last_stops true = refl
last_stops false = refl

main_ends : (main : Main) (b : Bool) → main_then main (last_token b) ≡ ended_then (completed main (Some None)) (last_token b)
main_ends main true = refl
main_ends main false = refl

sets_end : (table : List ℕ) (sets : Option (List (List ℕ × Expr))) (b : Bool) → sets_then table sets (last_token b) ≡ ended_then (completed (m.Update table sets) (Some None)) (last_token b)
sets_end table sets true = refl
sets_end table sets false = refl

tuples_end : (table : List ℕ) (columns : List (List ℕ)) (rows : Option (List (List Expr))) (b : Bool) → insert_then (i.TupleHad table columns rows) (last_token b) ≡ ended_then (option_map (stmt.Insert table columns) rows) (last_token b)
tuples_end table columns rows true = refl
tuples_end table columns rows false = refl

versions_end : (names : List (List ℕ)) (b : Bool) → set_then (w.Had names) (last_token b) ≡ ended_then (Some (stmt.SetPath names)) (last_token b)
versions_end names true = refl
versions_end names false = refl

path_is : bytes_eq (codes "search_path") (codes "search_path") ≡ true
path_is = (bytes_eq-Decides (codes "search_path") (codes "search_path")).1 refl

-- An expression begins with a token, and that is no star.
abbrev IsBegun : List Token → Type 0
IsBegun [] = ⊥
IsBegun (t.Sign s.Star ∷ xs) = ⊥
IsBegun _ = Unit {0}

begun_longer : (xs ys : List Token) → IsBegun xs → IsBegun (xs ++ ys)
begun_longer [] ys h = absurd h
begun_longer (t.Sign s.Star ∷ xs) ys h = absurd h
begun_longer (_ ∷ xs) ys h = tt

reads_begin : (ts : List Token) (a : Expr) → Reads 0 ts a → IsBegun ts
reads_begin ts a reads = by_tokens ts (text_runs 64 (omega arith) (ts ++ t.End ∷ []) a (record { tokens = ts; ends = refl; reads = reads }))
  where
    by_tokens : (ts : List Token) → run 64 (Some (q.Want [])) (ts ++ t.End ∷ []) ≡ Some (q.Done (cap 64 a)) → IsBegun ts
    by_tokens [] h = absurd cc
    by_tokens (t.Sign s.Star ∷ xs) h = let none = run-none 64 (xs ++ t.End ∷ []) in absurd cc
    by_tokens (_ ∷ xs) h = tt

list_begins : {ts : List Token} {list : List Expr} → Listed (Reads 0) ts list → IsBegun ts
list_begins (first {xs = xs} {a = a} reads) = reads_begin xs a reads
list_begins (next {xs = xs} {ys = ys} before reads) = begun_longer xs (t.Sign s.Comma ∷ ys) (list_begins before)

pub never_leaves : (x : Token) → leaves x (q.Want []) ≡ false
never_leaves x = by_test (stops x)
  where
    by_test : (b : Bool) → (if b then false else false) ≡ false
    by_test true = refl
    by_test false = refl

stays_first : (most : ℕ) (x : Token) → within most (pl.Item (Some [])) (q.Want []) x ≡ option_map (g.In (pl.Item (Some []))) (step most (q.Want []) x)
stays_first most x = ap (λ b. if b then left_at (pl.Item (Some [])) x (step most (q.Want []) t.End) else option_map (g.In (pl.Item (Some []))) (step most (q.Want []) x)) (never_leaves x)

first_of_item : (most : ℕ) (x : Token) (xs : List Token) → IsBegun (x ∷ xs) → select_then most r.Word x ≡ within most (pl.Item (Some [])) (q.Want []) x
first_of_item most (t.Sign s.Star) xs h = absurd h
first_of_item most x xs h = sym (stays_first most x)

item_begins : (most : ℕ) (ts rest : List Token) → IsBegun ts →
    runs (stage_step most) (Some (g.Select r.Word)) (ts ++ rest) ≡ runs (stage_step most) (Some (g.In (pl.Item (Some [])) (q.Want []))) (ts ++ rest)
item_begins most [] rest h = absurd h
item_begins most (x ∷ xs) rest h = ap (λ o. runs (stage_step most) o (xs ++ rest)) (first_of_item most x xs h)

module _ (most : ℕ) (room : 1 ≤ most) where
  filter_runs : (main : Main) {ys : List Token} {cond : Option Expr} → ReadsFilter ys cond → (b : Bool) (rest : List Token) →
      runs (stage_step most) (Some (g.Main main)) (ys ++ last_token b ∷ rest) ≡ runs (stage_step most) (ended_then (completed main (kept most filter_depth cond)) (last_token b)) rest
  filter_runs main no_filter b rest = ap (λ o. runs (stage_step most) o rest) (main_ends main b ∙ ap (λ c. ended_then (completed main c) (last_token b)) (kept_no_filter most))
  filter_runs main (a_filter {xs = xs} {a = a} reads) b rest =
      expression_runs most room (pl.Filter main) xs a reads (last_token b) rest (last_stops b)
      ∙ ap (λ c. runs (stage_step most) (ended_then (completed main c) (last_token b)) rest) (kept_filter most a)

  sets_filter_run : (table : List ℕ) {xs ys : List Token} {sets : List (List ℕ × Expr)} {cond : Option Expr} → Listed ReadsSet xs sets → ReadsFilter ys cond → (b : Bool) (rest : List Token) →
      runs (stage_step most) (Some (g.Update (u.Wanted table (kept_all most set_depth [])))) ((xs ++ ys) ++ last_token b ∷ rest)
      ≡ runs (stage_step most) (ended_then (completed (m.Update table (kept_all most set_depth sets)) (kept most filter_depth cond)) (last_token b)) rest
  sets_filter_run table {sets = sets} l no_filter b rest =
      rw append-nil (sets_run most room table l (last_token b) rest (last_stops b)
      ∙ ap (λ o. runs (stage_step most) o rest) (sets_end table (kept_all most set_depth sets) b ∙ ap (λ c. ended_then (completed (m.Update table (kept_all most set_depth sets)) c) (last_token b)) (kept_no_filter most)))
  sets_filter_run table {sets = sets} l (a_filter {xs = zs} reads) b rest =
      rw append_assoc (sets_run most room table l (t.Key k.Where) (zs ++ last_token b ∷ rest) refl
      ∙ filter_runs (m.Update table (kept_all most set_depth sets)) (a_filter reads) b rest)

  query_runs : (table : List ℕ) (list : Items) (x : Token) → name_of x ≡ Some table → {ys : List Token} {cond : Option Expr} → ReadsFilter ys cond → (b : Bool) (rest : List Token) →
      runs (stage_step most) (Some (g.Select (r.From (kept most items_depth list)))) (x ∷ (ys ++ last_token b ∷ rest))
      ≡ runs (stage_step most) (ended_then (kept most stmt_depth (stmt.Query table list cond)) (last_token b)) rest
  query_runs table list x is {ys} {cond} f b rest =
      ap (λ o. runs (stage_step most) (option_map (λ table. g.Main (m.Query table (kept most items_depth list))) o) (ys ++ last_token b ∷ rest)) is
      ∙ filter_runs (m.Query table (kept most items_depth list)) f b rest
      ∙ ap (λ o. runs (stage_step most) (ended_then o (last_token b)) rest) (kept_query most table list cond)

  items_runs : {xs : List Token} {list : Items} → ReadsItems xs list → (rest : List Token) →
      runs (stage_step most) (Some (g.Select r.Word)) (xs ++ t.Key k.From ∷ rest) ≡ runs (stage_step most) (Some (g.Select (r.From (kept most items_depth list)))) rest
  items_runs all_items rest = ap (λ list. runs (stage_step most) (Some (g.Select (r.From list))) rest) (kept_star most)
  items_runs (listed {xs = xs} {list = list} l) rest =
      item_begins most xs (t.Key k.From ∷ rest) (list_begins l)
      ∙ ap (λ list. runs (stage_step most) (Some (g.In (pl.Item list) (q.Want []))) (xs ++ t.Key k.From ∷ rest)) (sym (kept_nothing most depth))
      ∙ items_run most room l (t.Key k.From) rest refl
      ∙ ap (λ list. runs (stage_step most) (Some (g.Select (r.From list))) rest) (kept_items most list)

  stmt_runs : {ts : List Token} {a : Stmt} → ReadsStmt ts a → (b : Bool) (rest : List Token) →
      runs (stage_step most) (Some g.Begin) (ts ++ last_token b ∷ rest) ≡ runs (stage_step most) (ended_then (kept most stmt_depth a) (last_token b)) rest
  stmt_runs (insert x {table = table} {xs = xs} {ys = ys} {columns = columns} {rows = rows} is names tuples) b rest =
      rw append_assoc (ap (λ o. runs (stage_step most) (goes (stage_step most) (option_map (λ table. g.Insert (i.Table table)) o) (t.Sign s.Open)) (xs ++ t.Sign s.Close ∷ t.Key k.Values ∷ (ys ++ last_token b ∷ rest))) is
      ∙ columns_run most room table names (t.Sign s.Close) (t.Key k.Values ∷ (ys ++ last_token b ∷ rest)) refl
      ∙ ap (λ rows. runs (stage_step most) (Some (g.Insert (i.TupleWanted table columns rows))) (ys ++ last_token b ∷ rest)) (sym (kept_nothing most deepest_of))
      ∙ tuples_run most room table columns tuples (last_token b) rest (last_stops b)
      ∙ ap (λ o. runs (stage_step most) o rest) (tuples_end table columns (kept_all most deepest_of rows) b)
      ∙ ap (λ o. runs (stage_step most) (ended_then o (last_token b)) rest) (kept_insert most table columns rows))
  stmt_runs (update x {table = table} {xs = xs} {ys = ys} {sets = sets} {cond = cond} is l f) b rest =
      ap (λ o. runs (stage_step most) (goes (stage_step most) (option_map (λ table. g.Update (u.Table table)) o) (t.Key k.Set)) ((xs ++ ys) ++ last_token b ∷ rest)) is
      ∙ ap (λ sets. runs (stage_step most) (Some (g.Update (u.Wanted table sets))) ((xs ++ ys) ++ last_token b ∷ rest)) (sym (kept_nothing most set_depth))
      ∙ sets_filter_run table l f b rest
      ∙ ap (λ o. runs (stage_step most) (ended_then o (last_token b)) rest) (kept_update most table sets cond)
  stmt_runs (delete x {table = table} {xs = xs} {cond = cond} is f) b rest =
      ap (λ o. runs (stage_step most) (option_map (λ table. g.Main (m.Delete table)) o) (xs ++ last_token b ∷ rest)) is
      ∙ filter_runs (m.Delete table) f b rest
      ∙ ap (λ o. runs (stage_step most) (ended_then o (last_token b)) rest) (kept_delete most table cond)
  stmt_runs (select x {table = table} {xs = xs} {ys = ys} {list = list} l is f) b rest =
      rw append_assoc (items_runs l (x ∷ (ys ++ last_token b ∷ rest)) ∙ query_runs table list x is f b rest)
  stmt_runs (path x {xs = xs} {names = names} is l) b rest =
      ap (λ o. runs (stage_step most) (goes (stage_step most) (path_word o) (t.Key k.To)) (xs ++ last_token b ∷ rest)) is
      ∙ ap (λ b'. runs (stage_step most) (goes (stage_step most) (if b' then Some (g.Set w.Path) else None) (t.Key k.To)) (xs ++ last_token b ∷ rest)) path_is
      ∙ versions_run most room l (last_token b) rest (last_stops b)
      ∙ ap (λ o. runs (stage_step most) o rest) (versions_end names b)
      ∙ ap (λ o. runs (stage_step most) (ended_then o (last_token b)) rest) (kept_path most names)

  pub stmt_text_runs : (ts : List Token) (a : Stmt) → IsStmt ts a → runs (stage_step most) (Some g.Begin) ts ≡ Some (g.Done (kept most stmt_depth a))
  stmt_text_runs ts a it = by_end it.ends
    where
      by_end : (ts ≡ it.tokens ++ t.End ∷ []) ⊎ (ts ≡ it.tokens ++ t.Sign s.Semicolon ∷ t.End ∷ []) → runs (stage_step most) (Some g.Begin) ts ≡ Some (g.Done (kept most stmt_depth a))
      by_end (inl h) = ap (runs (stage_step most) (Some g.Begin)) h ∙ stmt_runs it.reads false []
      by_end (inr h) = ap (runs (stage_step most) (Some g.Begin)) h ∙ stmt_runs it.reads true (t.End ∷ [])

-- No text has two statements: the run with a limit that neither reaches ends in both.
pub one_statement : (ts : List Token) (a b : Stmt) → IsStmt ts a → IsStmt ts b → a ≡ b
one_statement ts a b one other =
    let most = max (stmt_depth a) (stmt_depth b) + 1 in
    let from_one = stmt_text_runs most (omega arith) ts a one in let from_other = stmt_text_runs most (omega arith) ts b other in
    let all : kept most stmt_depth a ≡ Some a = rw (le-leb (stmt_depth a) most (omega arith)) refl in
    let same : kept most stmt_depth b ≡ Some b = rw (le-leb (stmt_depth b) most (omega arith)) refl in cc
