-- What a condition comes to over a row that shows its key, by the condition's form.
use Rattle.std.proofs.Common.{◌≡◌, ℕ, ℤ, List, Bool, true, false, cond, Option, Some, None, Ok, refl, sym, ap, subst, map, arith, Ordering, Less, Equal, Greater}
use Rattle.std.specs.Prelude.{◌==◌, slice_index_or}
use Rattle.std.specs.Option.{option_map_or}
use Rattle.std.specs.Ordering.{int_cmp, int_eq, is_eq}
use Rattle.std.proofs.lemmas.Bool.Decides.{Decides-int_eq, nat_tests}
use Rattle.sql_base.specs.declared.exprs.Arm.{Arm}
use Rattle.sql_base.specs.declared.exprs.BinOp.{BinOp}
use Rattle.sql_base.specs.declared.exprs.BinOp.TheVariants as op
use Rattle.sql_base.specs.declared.exprs.Expr.TheFolds.{fold-Arm, fold-roll-Expr, ind-Expr, map-Expr}
use Rattle.sql_base.specs.declared.exprs.Expr.TheOpen.{Expr-F}
use Rattle.sql_base.specs.declared.exprs.Expr.TheViews.{roll-Expr}
use Rattle.sql_base.specs.declared.values.Value.TheVariants.{Bool as Truth, Text}
use Rattle.sql_eval.specs.Eval as valued
use Rattle.sql_eval.specs.Eval.{binary, eval, eval_arm, eval_step, value_at}
use Rattle.sql_eval.specs.Value.{Outcome, accepts}
use Rattle.row_rules.specs.declared.reach.Part.{Part}
use Rattle.row_rules.specs.declared.reach.Part.TheVariants.{KeyColumn, Literal, NamesKey, Other}
use Rattle.row_rules.specs.Reach as spec
use Rattle.row_rules.specs.Reach.{column_part, equal_parts, joined_parts, key_named, literal_part, named_by, narrowed, part_of, part_step}
use Rattle.row_rules.specs.Words.{Expr, Int, Null, Shape, Value}
use Rattle.row_rules.proofs.Places.{some_same}

-- ---- equality of two keys

unequal : (o : Ordering) → is_eq o ≡ false → accepts false true false (Some o) ≡ Truth false
unequal Less h = refl
unequal Equal h = cc
unequal Greater h = refl

turned : (m n : ℤ) → int_eq m n ≡ false → int_eq n m ≡ false
turned m n h = grind (arith, Decides-int_eq m n, Decides-int_eq n m)

-- ---- parts

module _ (shape : Shape) (row : List Value) (key : ℤ) (shows : slice_index_or row shape.key Null ≡ Int key) where
  -- The key's column and a literal come to their integer, and a condition that names another key to false.
  abbrev Comes : Part → Outcome → Type 0
  Comes KeyColumn r = r ≡ Ok (Int key)
  Comes (Literal n) r = r ≡ Ok (Int n)
  Comes (NamesKey n) r = int_eq key n ≡ false → r ≡ Ok (Truth false)
  Comes Other r = Unit {0}

  literal_comes : (v : Value) → Comes (literal_part v) (Ok v)
  literal_comes (Int n) = refl
  literal_comes Null = tt
  literal_comes (Text t) = tt
  literal_comes (Truth b) = tt

  column_comes : (found : Option ℕ) → Comes (cond (option_map_or (λ at. at == shape.key) found false) KeyColumn Other) (Ok (value_at row found))
  column_comes None = tt
  column_comes (Some at) = by_test (at == shape.key) refl
    where
      by_test : (b : Bool) → (at == shape.key) ≡ b → Comes (cond b KeyColumn Other) (Ok (slice_index_or row at Null))
      by_test true e =
          let same : at ≡ shape.key = grind (arith, nat_tests) in
          ap Ok (subst (λ n. slice_index_or row n Null ≡ Int key) (sym same) shows)
      by_test false e = tt

  equal_comes : (p q : Part) (r s : Outcome) → Comes p r → Comes q s → Comes (equal_parts p q) (binary op.Eq r s)
  equal_comes KeyColumn (Literal n) r s left right = λ differ. rw (left, right) (ap Ok (unequal (int_cmp key n) differ))
  equal_comes (Literal n) KeyColumn r s left right = λ differ. rw (left, right) (ap Ok (unequal (int_cmp n key) (turned key n differ)))
  equal_comes KeyColumn KeyColumn r s left right = tt
  equal_comes KeyColumn (NamesKey n) r s left right = tt
  equal_comes KeyColumn Other r s left right = tt
  equal_comes (Literal m) (Literal n) r s left right = tt
  equal_comes (Literal m) (NamesKey n) r s left right = tt
  equal_comes (Literal m) Other r s left right = tt
  equal_comes (NamesKey m) q r s left right = tt
  equal_comes Other q r s left right = tt

  narrowed_comes : (p : Part) (r s : Outcome) → Comes p r → Comes (narrowed p) (binary op.And r s)
  narrowed_comes (NamesKey n) r s left = λ differ. rw (left differ) refl
  narrowed_comes KeyColumn r s left = tt
  narrowed_comes (Literal n) r s left = tt
  narrowed_comes Other r s left = tt

  joined_comes : (o : BinOp) (p q : Part) (r s : Outcome) → Comes p r → Comes q s → Comes (joined_parts o p q) (binary o r s)
  joined_comes op.Eq p q r s left right = equal_comes p q r s left right
  joined_comes op.And p q r s left right = narrowed_comes p r s left
  joined_comes _ p q r s left right = tt

  abbrev P : Expr → Type 0
  P e = Comes (part_of shape e) (eval shape row e)

  abbrev Q : Arm → Type 0
  Q a = Unit {0}

  abbrev arm_part : Arm → Unit {0}
  arm_part a = tt

  at : (x : Expr-F Expr Arm) → Comes (part_step shape (map-Expr Expr Arm Part (Unit {0}) (part_of shape) (fold-Arm Part (Unit {0}) (part_step shape) spec.arm_step) x)) (eval_step shape row (map-Expr Expr Arm Outcome (Outcome × Outcome) (eval shape row) (eval_arm shape row) x)) → P (roll-Expr x)
  unfolding eval eval_arm part_of
  at x h =
      let named = fold-roll-Expr Part (Unit {0}) (part_step shape) spec.arm_step x in
      let comes = fold-roll-Expr Outcome (Outcome × Outcome) (eval_step shape row) valued.arm_step x in
      subst (λ p. Comes p (eval shape row (roll-Expr x))) (sym named) (subst (λ r. Comes (part_step shape (map-Expr Expr Arm Part (Unit {0}) (part_of shape) (fold-Arm Part (Unit {0}) (part_step shape) spec.arm_step) x)) r) (sym comes) h)

  level : (y : Expr-F ((e : Expr) × P e) ((a : Arm) × Q a)) → P (roll-Expr (map-Expr ((e : Expr) × P e) ((a : Arm) × Q a) Expr Arm (λ e. e.0) (λ a. a.0) y))
  level (Expr-F.Lit v) = at (Expr-F.Lit v) (literal_comes v)
  level (Expr-F.Col name) = at (Expr-F.Col name) (column_comes (valued.column_at shape name))
  level (Expr-F.Not a) = at (Expr-F.Not a.0) tt
  level (Expr-F.Neg a) = at (Expr-F.Neg a.0) tt
  level (Expr-F.IsNull a) = at (Expr-F.IsNull a.0) tt
  level (Expr-F.Bin o a b) = at (Expr-F.Bin o a.0 b.0) (joined_comes o (part_of shape a.0) (part_of shape b.0) (eval shape row a.0) (eval shape row b.0) a.1 b.1)
  level (Expr-F.Cast a to) = at (Expr-F.Cast a.0 to) tt
  level (Expr-F.Case arms e) = at (Expr-F.Case (map (λ a. a.0) arms) e.0) tt
  level (Expr-F.Call f args) = at (Expr-F.Call f (map (λ e. e.0) args)) tt

  comes : (e : Expr) → P e
  comes e = ind-Expr P Q (λ x y is. subst (λ z. P (roll-Expr z)) is (level y)) (λ x y is. tt) e

  names_other : (p : Part) (r : Outcome) (n : ℤ) → named_by p ≡ Some n → Comes p r → int_eq key n ≡ false → r ≡ Ok (Truth false)
  names_other (NamesKey m) r n named h differ = h (subst (λ k. int_eq key k ≡ false) (sym (some_same m n named)) differ)
  names_other KeyColumn r n named h differ = cc
  names_other (Literal m) r n named h differ = cc
  names_other Other r n named h differ = cc

-- Over a row that shows another key than the one that a condition names, the condition is false.
pub false_elsewhere : (shape : Shape) (row : List Value) (key : ℤ) → slice_index_or row shape.key Null ≡ Int key → (e : Expr) (n : ℤ) → key_named shape e ≡ Some n → int_eq key n ≡ false → eval shape row e ≡ Ok (Truth false)
false_elsewhere shape row key shows e n named differ =
    names_other shape row key shows (part_of shape e) (eval shape row e) n named (comes shape row key shows e) differ
