-- What an expression comes to rests on the columns that it names: by induction over the tree.
use Rattle.std.proofs.Common.{◌≡◌, ◌∙◌, ℕ, List, [], ◌∷◌, Bool, true, false, ◌||◌, Ok, ap, refl, sym, subst, map, arith}
use Rattle.std.specs.Str.{bytes_eq}
use Rattle.std.proofs.lemmas.Slice.Eq.{bytes_eq-Decides}
use Rattle.sql_base.specs.declared.values.Value.{Value}
use Rattle.sql_base.specs.declared.values.Value.TheVariants.{Bool as Truth}
use Rattle.sql_base.specs.declared.exprs.Expr.{Expr}
use Rattle.sql_base.specs.declared.exprs.Arm.{Arm}
use Rattle.sql_base.specs.declared.exprs.Expr.TheOpen.{Expr-F, Arm-F}
use Rattle.sql_base.specs.declared.exprs.Expr.TheViews.{roll-Expr, roll-Arm}
use Rattle.sql_base.specs.declared.exprs.Expr.TheFolds.{ind-Expr, fold-roll-Expr, fold-roll-Arm, map-Expr, map-Arm}
use Rattle.sql_base.specs.declared.shapes.Shape.{Shape}
use Rattle.sql_base.specs.Outcome.{and_then}
use Rattle.sql_eval.specs.Value.{Outcome, is_null, negated, inverted}
use Rattle.sql_eval.specs.Cast.{cast}
use Rattle.sql_eval.specs.Eval as valued
use Rattle.sql_eval.specs.Eval.{binary, case, call, eval, eval_arm, eval_step, value_at, column_at}
use Rattle.sql_base.specs.Tree.{any, names_step, arm_names_step, names_column, arm_names_column}
use Rattle.sql_eval.specs.Laws.{LooksAtNamedColumns}

or_left : (a b : Bool) → a ≡ true → (a || b) ≡ true
or_left true b h = refl
or_left false b h = cc

or_right : (a b : Bool) → b ≡ true → (a || b) ≡ true
or_right true b h = refl
or_right false b h = h

same_name : (name : List ℕ) → bytes_eq name name ≡ true
same_name name = grind (arith, bytes_eq-Decides)

module _ (shape : Shape) (row : List Value) (other_shape : Shape) (other : List Value) where
  abbrev Same : List ℕ → Type 0
  Same name = value_at row (column_at shape name) ≡ value_at other (column_at other_shape name)

  abbrev P : Expr → Type 0
  P e = ((name : List ℕ) → names_column name e ≡ true → Same name) → eval shape row e ≡ eval other_shape other e

  abbrev Q : Arm → Type 0
  Q a = ((name : List ℕ) → arm_names_column name a ≡ true → Same name) → eval_arm shape row a ≡ eval_arm other_shape other a

  every_part : (ys : List ((e : Expr) × P e)) → ((name : List ℕ) → any (map (names_column name) (map (λ e. e.0) ys)) ≡ true → Same name) → map (eval shape row) (map (λ e. e.0) ys) ≡ map (eval other_shape other) (map (λ e. e.0) ys)
  every_part [] agree = refl
  every_part (y ∷ ys) agree =
      let here = y.1 (λ name h. agree name (or_left (names_column name y.0) (any (map (names_column name) (map (λ e. e.0) ys))) h)) in
      let there = every_part ys (λ name h. agree name (or_right (names_column name y.0) (any (map (names_column name) (map (λ e. e.0) ys))) h)) in
      cc

  every_arm : (ys : List ((a : Arm) × Q a)) → ((name : List ℕ) → any (map (arm_names_column name) (map (λ a. a.0) ys)) ≡ true → Same name) → map (eval_arm shape row) (map (λ a. a.0) ys) ≡ map (eval_arm other_shape other) (map (λ a. a.0) ys)
  every_arm [] agree = refl
  every_arm (y ∷ ys) agree =
      let here = y.1 (λ name h. agree name (or_left (arm_names_column name y.0) (any (map (arm_names_column name) (map (λ a. a.0) ys))) h)) in
      let there = every_arm ys (λ name h. agree name (or_right (arm_names_column name y.0) (any (map (arm_names_column name) (map (λ a. a.0) ys))) h)) in
      cc

  at : (x : Expr-F Expr Arm) → (((name : List ℕ) → names_step name (map-Expr Expr Arm Bool Bool (names_column name) (arm_names_column name) x) ≡ true → Same name) → eval_step shape row (map-Expr Expr Arm Outcome (Outcome × Outcome) (eval shape row) (eval_arm shape row) x) ≡ eval_step other_shape other (map-Expr Expr Arm Outcome (Outcome × Outcome) (eval other_shape other) (eval_arm other_shape other) x)) → P (roll-Expr x)
  unfolding eval eval_arm names_column arm_names_column
  at x h agree =
      let named = λ (name : List ℕ). fold-roll-Expr Bool Bool (names_step name) arm_names_step x in
      let one = fold-roll-Expr Outcome (Outcome × Outcome) (eval_step shape row) valued.arm_step x in
      let two = fold-roll-Expr Outcome (Outcome × Outcome) (eval_step other_shape other) valued.arm_step x in
      one ∙ h (λ name k. agree name (named name ∙ k)) ∙ sym two

  level : (y : Expr-F ((e : Expr) × P e) ((a : Arm) × Q a)) → P (roll-Expr (map-Expr ((e : Expr) × P e) ((a : Arm) × Q a) Expr Arm (λ e. e.0) (λ a. a.0) y))
  level (Expr-F.Lit v) = at (Expr-F.Lit v) (λ agree. refl)
  level (Expr-F.Col name) = at (Expr-F.Col name) (λ agree. ap Ok (agree name (same_name name)))
  level (Expr-F.Not a) = at (Expr-F.Not a.0) (λ agree. ap (λ r. and_then r (λ x. Ok (inverted x))) (a.1 agree))
  level (Expr-F.Neg a) = at (Expr-F.Neg a.0) (λ agree. ap (λ r. and_then r negated) (a.1 agree))
  level (Expr-F.IsNull a) = at (Expr-F.IsNull a.0) (λ agree. ap (λ r. and_then r (λ x. Ok (Truth (is_null x)))) (a.1 agree))
  level (Expr-F.Bin op a b) =
      at (Expr-F.Bin op a.0 b.0) (λ agree.
      let left = a.1 (λ name h. agree name (or_left (names_column name a.0) (names_column name b.0) h)) in
      let right = b.1 (λ name h. agree name (or_right (names_column name a.0) (names_column name b.0) h)) in
      ap (λ r. binary op r (eval shape row b.0)) left ∙ ap (λ r. binary op (eval other_shape other a.0) r) right)
  level (Expr-F.Cast a to) = at (Expr-F.Cast a.0 to) (λ agree. ap (λ r. and_then r (λ x. cast x to)) (a.1 agree))
  level (Expr-F.Case arms e) =
      at (Expr-F.Case (map (λ a. a.0) arms) e.0) (λ agree.
      let before = every_arm arms (λ name h. agree name (or_left (any (map (arm_names_column name) (map (λ a. a.0) arms))) (names_column name e.0) h)) in
      let last = e.1 (λ name h. agree name (or_right (any (map (arm_names_column name) (map (λ a. a.0) arms))) (names_column name e.0) h)) in
      ap (λ rs. case rs (eval shape row e.0)) before ∙ ap (λ r. case (map (eval_arm other_shape other) (map (λ a. a.0) arms)) r) last)
  level (Expr-F.Call f args) = at (Expr-F.Call f (map (λ e. e.0) args)) (λ agree. ap (call f) (every_part args agree))

  arm_level : (y : Arm-F ((e : Expr) × P e) ((a : Arm) × Q a)) → Q (roll-Arm (map-Arm ((e : Expr) × P e) ((a : Arm) × Q a) Expr Arm (λ e. e.0) (λ a. a.0) y))
  unfolding eval eval_arm names_column arm_names_column
  arm_level y agree =
      let x = map-Arm ((e : Expr) × P e) ((a : Arm) × Q a) Expr Arm (λ e. e.0) (λ a. a.0) y in
      let named = λ (name : List ℕ). fold-roll-Arm Bool Bool (names_step name) arm_names_step x in
      let one = fold-roll-Arm Outcome (Outcome × Outcome) (eval_step shape row) valued.arm_step x in
      let two = fold-roll-Arm Outcome (Outcome × Outcome) (eval_step other_shape other) valued.arm_step x in
      let when = y.when.1 (λ name h. agree name (named name ∙ or_left (names_column name y.when.0) (names_column name y.gives.0) h)) in
      let gives = y.gives.1 (λ name h. agree name (named name ∙ or_right (names_column name y.when.0) (names_column name y.gives.0) h)) in
      one ∙ ap (λ r. (r, eval shape row y.gives.0)) when ∙ ap (λ r. (eval other_shape other y.when.0, r)) gives ∙ sym two

pub looks_at_named_columns : LooksAtNamedColumns
looks_at_named_columns e shape row other_shape other agree =
    ind-Expr (P shape row other_shape other) (Q shape row other_shape other) (λ x y is. subst (λ z. P shape row other_shape other (roll-Expr z)) is (level shape row other_shape other y)) (λ x y is. subst (λ z. Q shape row other_shape other (roll-Arm z)) is (arm_level shape row other_shape other y)) e agree
