-- A value, given up where it is deeper than the most.
use Rattle.std.proofs.Common.{◌≡◌, ℕ, List, [], ◌∷◌, ◌++◌, Bool, true, false, Option, Some, None, map, max, if◌then◌else◌, refl, sym, ◌∙◌, ap, arith, nat_le}
use Rattle.std.specs.Option.{option_map}
use Rattle.std.proofs.lemmas.Bool.{le-leb}
use Rattle.sql_base.specs.declared.exprs.Expr.{Expr}
use Rattle.sql_base.specs.declared.stmts.Stmt.TheVariants as stmt
use Rattle.sql_base.specs.declared.stmts.Items.{Items}
use Rattle.sql_base.specs.declared.stmts.Items.TheVariants as items
use Rattle.sql_base.specs.Tree.{depth, deepest, deepest_of}
use Rattle.sql_parse.specs.declared.machine.Part.TheVariants.{Whole, Deep}
use Rattle.sql_parse.specs.declared.stages.Main.TheVariants as m
use Rattle.sql_parse.specs.Reading.{items_depth, filter_depth, set_depth, stmt_depth}
use Rattle.sql_parse.specs.Stages.{whole, both, with_last, completed}
use Rattle.sql_parse.proofs.Capped.{cap, max_within}

abbrev pub kept : {X : Type 0} → ℕ → (X → ℕ) → X → Option X
kept most deepness x = if nat_le (deepness x) most then Some x else None

abbrev pub kept_all : {X : Type 0} → ℕ → (X → ℕ) → List X → Option (List X)
kept_all most deepness xs = if nat_le (deepest (map deepness xs)) most then Some xs else None

pub kept_whole : (most : ℕ) (a : Expr) → whole (cap most a) ≡ kept most depth a
kept_whole most a = by_test (nat_le (depth a) most)
  where
    by_test : (b : Bool) → whole (if b then Whole a (depth a) else Deep) ≡ (if b then Some a else None)
    by_test true = refl
    by_test false = refl

pub kept_nothing : {X : Type 0} (most : ℕ) (deepness : X → ℕ) → kept_all most deepness [] ≡ Some []
kept_nothing most deepness = rw (le-leb 0 most (omega arith)) refl

pub kept_map : {X Y : Type 0} (form : X → Y) (x : X) (b : Bool) → option_map form (if b then Some x else None) ≡ (if b then Some (form x) else None)
kept_map form x true = refl
kept_map form x false = refl

kept_both : {X Y Z : Type 0} (form : X → Y → Z) (x : X) (y : Y) (most d j : ℕ) →
    both form (if nat_le d most then Some x else None) (if nat_le j most then Some y else None) ≡ (if nat_le (max d j) most then Some (form x y) else None)
kept_both form x y most d j = rw (max_within most d j) (by_tests (nat_le d most) (nat_le j most))
  where
    by_tests : (b c : Bool) → both form (if b then Some x else None) (if c then Some y else None) ≡ (if (if b then c else false) then Some (form x y) else None)
    by_tests true true = refl
    by_tests true false = refl
    by_tests false c = refl

deepest_last : {X : Type 0} (deepness : X → ℕ) (xs : List X) (x : X) → deepest (map deepness (xs ++ x ∷ [])) ≡ max (deepest (map deepness xs)) (deepness x)
deepest_last deepness [] x = omega arith
deepest_last deepness (y ∷ xs) x = omega (arith, deepest_last deepness xs x)

last_kept : {X : Type 0} (xs : List X) (x : X) (most d j : ℕ) →
    with_last (if nat_le d most then Some xs else None) (if nat_le j most then Some x else None) ≡ (if nat_le (max d j) most then Some (xs ++ x ∷ []) else None)
last_kept xs x most d j = rw (max_within most d j) (by_tests (nat_le d most) (nat_le j most))
  where
    by_tests : (b c : Bool) → with_last (if b then Some xs else None) (if c then Some x else None) ≡ (if (if b then c else false) then Some (xs ++ x ∷ []) else None)
    by_tests true true = refl
    by_tests true false = refl
    by_tests false c = refl

-- one more at the end of a list
pub kept_last : {X : Type 0} (most : ℕ) (deepness : X → ℕ) (xs : List X) (x : X) → with_last (kept_all most deepness xs) (kept most deepness x) ≡ kept_all most deepness (xs ++ x ∷ [])
kept_last most deepness xs x =
    last_kept xs x most (deepest (map deepness xs)) (deepness x) ∙ ap (λ n. if nat_le n most then Some (xs ++ x ∷ []) else None) (sym (deepest_last deepness xs x))

-- ---- statements

pub kept_set : (most : ℕ) (name : List ℕ) (a : Expr) → option_map (λ b. (name, b)) (kept most depth a) ≡ kept most set_depth (name, a)
kept_set most name a = kept_map (λ b. (name, b)) a (nat_le (depth a) most)

pub kept_items : (most : ℕ) (list : List Expr) → option_map items.Listed (kept_all most depth list) ≡ kept most items_depth (items.Listed list)
kept_items most list = kept_map items.Listed list (nat_le (deepest_of list) most)

pub kept_star : (most : ℕ) → Some items.All ≡ kept most items_depth items.All
kept_star most = rw (le-leb 0 most (omega arith)) refl

pub kept_filter : (most : ℕ) (a : Expr) → option_map Some (kept most depth a) ≡ kept most filter_depth (Some a)
kept_filter most a = kept_map Some a (nat_le (depth a) most)

pub kept_no_filter : (most : ℕ) → Some None ≡ kept most filter_depth None
kept_no_filter most = rw (le-leb 0 most (omega arith)) refl

pub kept_insert : (most : ℕ) (table : List ℕ) (columns : List (List ℕ)) (rows : List (List Expr)) →
    option_map (stmt.Insert table columns) (kept_all most deepest_of rows) ≡ kept most stmt_depth (stmt.Insert table columns rows)
kept_insert most table columns rows = kept_map (stmt.Insert table columns) rows (nat_le (deepest (map deepest_of rows)) most)

pub kept_path : (most : ℕ) (names : List (List ℕ)) → Some (stmt.SetPath names) ≡ kept most stmt_depth (stmt.SetPath names)
kept_path most names = rw (le-leb 0 most (omega arith)) refl

pub kept_update : (most : ℕ) (table : List ℕ) (sets : List (List ℕ × Expr)) (cond : Option Expr) →
    completed (m.Update table (kept_all most set_depth sets)) (kept most filter_depth cond) ≡ kept most stmt_depth (stmt.Update table sets cond)
kept_update most table sets cond = kept_both (stmt.Update table) sets cond most (deepest (map set_depth sets)) (filter_depth cond)

pub kept_delete : (most : ℕ) (table : List ℕ) (cond : Option Expr) → completed (m.Delete table) (kept most filter_depth cond) ≡ kept most stmt_depth (stmt.Delete table cond)
kept_delete most table cond = kept_map (stmt.Delete table) cond (nat_le (filter_depth cond) most)

pub kept_query : (most : ℕ) (table : List ℕ) (list : Items) (cond : Option Expr) →
    completed (m.Query table (kept most items_depth list)) (kept most filter_depth cond) ≡ kept most stmt_depth (stmt.Query table list cond)
kept_query most table list cond = kept_both (stmt.Query table) list cond most (items_depth list) (filter_depth cond)
