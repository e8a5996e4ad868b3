-- The conditions that name a key, by their form.
use Rattle.std.proofs.Common.{◌≡◌, ◌∙◌, ℕ, ℤ, List, Bool, true, false, cond, Some, ap, refl, sym, subst, map}
use Rattle.sql_base.specs.declared.exprs.Arm.{Arm}
use Rattle.sql_base.specs.declared.exprs.BinOp.{BinOp}
use Rattle.sql_base.specs.declared.exprs.BinOp.TheVariants as op
use Rattle.sql_base.specs.declared.exprs.Expr.TheFolds.{fold-Arm, fold-roll-Expr, ind-Expr, map-Expr}
use Rattle.sql_base.specs.declared.exprs.Expr.TheOpen.{Expr-F}
use Rattle.sql_base.specs.declared.exprs.Expr.TheVariants.{Bin, Col, Lit}
use Rattle.sql_base.specs.declared.exprs.Expr.TheViews.{roll-Expr}
use Rattle.sql_base.specs.declared.values.Value.TheVariants.{Bool as Truth, Text}
use Rattle.row_rules.specs.declared.reach.Part.{Part}
use Rattle.row_rules.specs.declared.reach.Part.TheVariants.{KeyColumn, Literal, NamesKey, Other}
use Rattle.row_rules.specs.Forms.{FormsName, NamedByForm, Names, key_first, key_last, left_of_and}
use Rattle.row_rules.specs.Reach.{arm_step, column_part, equal_parts, is_key_column, joined_parts, literal_part, named_by, narrowed, part_of, part_step}
use Rattle.row_rules.specs.Words.{Expr, Int, Null, Shape, Value}
use Rattle.row_rules.proofs.Places.{some_same}

module _ (shape : Shape) where
  abbrev parts : Expr-F Expr Arm → Expr-F Part (Unit {0})
  parts x = map-Expr Expr Arm Part (Unit {0}) (part_of shape) (fold-Arm Part (Unit {0}) (part_step shape) arm_step) x

  rolled : (x : Expr-F Expr Arm) → part_of shape (roll-Expr x) ≡ part_step shape (parts x)
  unfolding part_of
  rolled x = fold-roll-Expr Part (Unit {0}) (part_step shape) arm_step x

  col_part : (name : List ℕ) → part_of shape (Col name) ≡ column_part shape name
  unfolding part_of roll-Expr denote.Hole.Carrier.roll
  col_part name = rolled (Expr-F.Col name)

  lit_part : (v : Value) → part_of shape (Lit v) ≡ literal_part v
  unfolding part_of roll-Expr denote.Hole.Carrier.roll
  lit_part v = rolled (Expr-F.Lit v)

  bin_part : (o : BinOp) (left right : Expr) → part_of shape (Bin o left right) ≡ joined_parts o (part_of shape left) (part_of shape right)
  unfolding part_of roll-Expr denote.Hole.Carrier.roll
  bin_part o left right = rolled (Expr-F.Bin o left right)

  column_named : (name : List ℕ) → is_key_column shape name ≡ true → part_of shape (Col name) ≡ KeyColumn
  column_named name is = col_part name ∙ rw is refl

  named : (condition : Expr) (n : ℤ) → Names shape condition n → part_of shape condition ≡ NamesKey n
  named _ n (key_first name k is) = bin_part op.Eq (Col name) (Lit (Int n)) ∙ rw (column_named name is, lit_part (Int n)) refl
  named _ n (key_last name k is) = bin_part op.Eq (Lit (Int n)) (Col name) ∙ rw (column_named name is, lit_part (Int n)) refl
  named _ n (left_of_and left right k h) = bin_part op.And left right ∙ ap narrowed (named left n h)

  -- What an expression is, by its part.
  abbrev Formed : Part → Expr → Type 0
  Formed KeyColumn e = (name : List ℕ) × (is_key_column shape name ≡ true) × (e ≡ Col name)
  Formed (Literal n) e = e ≡ Lit (Int n)
  Formed (NamesKey n) e = Names shape e n
  Formed Other e = Unit {0}

  literal_formed : (v : Value) → Formed (literal_part v) (Lit v)
  literal_formed (Int n) = refl
  literal_formed Null = tt
  literal_formed (Text t) = tt
  literal_formed (Truth b) = tt

  column_formed : (name : List ℕ) (b : Bool) → is_key_column shape name ≡ b → Formed (cond b KeyColumn Other) (Col name)
  column_formed name true is = (name, is, refl)
  column_formed name false is = tt

  equal_formed : (p q : Part) (left right : Expr) → Formed p left → Formed q right → Formed (equal_parts p q) (Bin op.Eq left right)
  equal_formed KeyColumn (Literal n) left right l r = subst (λ e. Names shape (Bin op.Eq e right) n) (sym l.2) (subst (λ e. Names shape (Bin op.Eq (Col l.0) e) n) (sym r) (key_first l.0 n l.1))
  equal_formed (Literal n) KeyColumn left right l r = subst (λ e. Names shape (Bin op.Eq e right) n) (sym l) (subst (λ e. Names shape (Bin op.Eq (Lit (Int n)) e) n) (sym r.2) (key_last r.0 n r.1))
  equal_formed KeyColumn KeyColumn left right l r = tt
  equal_formed KeyColumn (NamesKey n) left right l r = tt
  equal_formed KeyColumn Other left right l r = tt
  equal_formed (Literal m) (Literal n) left right l r = tt
  equal_formed (Literal m) (NamesKey n) left right l r = tt
  equal_formed (Literal m) Other left right l r = tt
  equal_formed (NamesKey m) q left right l r = tt
  equal_formed Other q left right l r = tt

  narrowed_formed : (p : Part) (left right : Expr) → Formed p left → Formed (narrowed p) (Bin op.And left right)
  narrowed_formed (NamesKey n) left right l = left_of_and left right n l
  narrowed_formed KeyColumn left right l = tt
  narrowed_formed (Literal n) left right l = tt
  narrowed_formed Other left right l = tt

  joined_formed : (o : BinOp) (p q : Part) (left right : Expr) → Formed p left → Formed q right → Formed (joined_parts o p q) (Bin o left right)
  joined_formed op.Eq p q left right l r = equal_formed p q left right l r
  joined_formed op.And p q left right l r = narrowed_formed p left right l
  joined_formed _ p q left right l r = tt

  abbrev P : Expr → Type 0
  P e = Formed (part_of shape e) e

  abbrev Q : Arm → Type 0
  Q a = Unit {0}

  at : (x : Expr-F Expr Arm) → Formed (part_step shape (parts x)) (roll-Expr x) → P (roll-Expr x)
  at x h = subst (λ p. Formed p (roll-Expr x)) (sym (rolled x)) h

  level : (y : Expr-F ((e : Expr) × P e) ((a : Arm) × Q a)) → P (roll-Expr (map-Expr ((e : Expr) × P e) ((a : Arm) × Q a) Expr Arm (λ e. e.0) (λ a. a.0) y))
  unfolding roll-Expr denote.Hole.Carrier.roll
  level (Expr-F.Lit v) = at (Expr-F.Lit v) (literal_formed v)
  level (Expr-F.Col name) = at (Expr-F.Col name) (column_formed name (is_key_column shape name) refl)
  level (Expr-F.Not a) = at (Expr-F.Not a.0) tt
  level (Expr-F.Neg a) = at (Expr-F.Neg a.0) tt
  level (Expr-F.IsNull a) = at (Expr-F.IsNull a.0) tt
  level (Expr-F.Bin o a b) = at (Expr-F.Bin o a.0 b.0) (joined_formed o (part_of shape a.0) (part_of shape b.0) a.0 b.0 a.1 b.1)
  level (Expr-F.Cast a to) = at (Expr-F.Cast a.0 to) tt
  level (Expr-F.Case arms e) = at (Expr-F.Case (map (λ a. a.0) arms) e.0) tt
  level (Expr-F.Call f args) = at (Expr-F.Call f (map (λ e. e.0) args)) tt

  formed : (e : Expr) → P e
  formed e = ind-Expr P Q (λ x y is. subst (λ z. P (roll-Expr z)) is (level y)) (λ x y is. tt) e

  by_part : (p : Part) (e : Expr) (n : ℤ) → named_by p ≡ Some n → Formed p e → Names shape e n
  by_part (NamesKey m) e n is h = subst (λ k. Names shape e k) (some_same m n is) h
  by_part KeyColumn e n is h = cc
  by_part (Literal m) e n is h = cc
  by_part Other e n is h = cc

pub named_by_form : NamedByForm
named_by_form shape condition n is = by_part shape (part_of shape condition) condition n is (formed shape condition)

pub forms_name : FormsName
forms_name shape condition n h = ap named_by (named shape condition n h)
