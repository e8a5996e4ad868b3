use Rattle.std.proofs.Common.{◌≡◌, ◌∙◌, ◌==◌, ℕ, zero, suc, List, [], ◌∷◌, true, false, None, Ok, codes, ap, refl, sym, arith}
use Rattle.std.proofs.lemmas.Bool.Decides.{nat_tests}
use Rattle.sql_base.specs.declared.exprs.Expr.TheFolds.{fold-Expr, fold-roll-Expr}
use Rattle.sql_base.specs.declared.exprs.Expr.TheOpen.{Expr-F}
use Rattle.sql_base.specs.declared.exprs.Expr.TheVariants.{Lit, rolls-Lit}
use Rattle.sql_base.specs.declared.shapes.Column.{Column}
use Rattle.sql_base.specs.declared.shapes.Shape.{Shape}
use Rattle.sql_base.specs.declared.values.Ty.{Ty}
use Rattle.sql_base.specs.declared.values.Ty.TheVariants as ty
use Rattle.sql_base.specs.declared.values.Value.TheVariants.{Null}
use Rattle.sql_eval.specs.Shape.{WellFormed, all_different}
use Rattle.sql_eval.specs.Typing.{Typed, TypedArm, arm_step, type_of, type_step}
use Rattle.mig_lens.specs.declared.columns.Cell.{Cell}
use Rattle.mig_lens.specs.declared.columns.Cell.TheVariants.{Carry, Make, Still}
use Rattle.mig_lens.specs.declared.columns.Lens.{Lens}
use Rattle.mig_lens.specs.Layout.{layout}
use Rattle.mig_lens.specs.Lens.{IsWellFormed, carries}
use Rattle.trigger_pair.specs.Laws.{IsPair}
use Rattle.row_fit.proofs.tests.pair.Goals as goal

abbrev a_column : List ℕ → Ty → Column
a_column name type = record { name = name; ty = type; nullable = false; default = Null }

abbrev a_shape : List ℕ → Ty → Shape
a_shape name type = record {
  columns = a_column (codes "id") ty.Bigint ∷ a_column name type ∷ [];
  key = 0;
  checks = [];
  uniques = [];
}

abbrev new_cells : List Cell
new_cells = Carry 0 ∷ Make (Lit Null) ∷ []

abbrev old_cells : List Cell
old_cells = Carry 0 ∷ Still Null ∷ []

abbrev a_lens : Lens
a_lens = record { new_cols = new_cells; old_cols = old_cells }

well_formed : (name : List ℕ) (type : Ty) → all_different (codes "id" ∷ name ∷ []) ≡ true → WellFormed (a_shape name type)
well_formed name type different = record {
  few = omega arith;
  different = different;
  key = refl;
  uniques = refl;
  defaults = refl;
  checks = refl;
}

null_has_no_type : (shape : Shape) → type_of shape (Lit Null) ≡ Ok None
unfolding type_of
null_has_no_type shape = ap (fold-Expr Typed TypedArm (type_step shape) arm_step) (sym (rolls-Lit Null))
    ∙ fold-roll-Expr Typed TypedArm (type_step shape) arm_step (Expr-F.Lit Null)

other_number : (n : ℕ) → (0 == suc n) ≡ false
other_number n = grind (arith, nat_tests)

both_ways : (i j : ℕ) → carries new_cells i j ≡ carries old_cells j i
both_ways zero zero = refl
both_ways zero (suc zero) = refl
both_ways zero (suc (suc j)) = other_number (suc j)
both_ways (suc zero) zero = refl
both_ways (suc zero) (suc zero) = refl
both_ways (suc zero) (suc (suc j)) = refl
both_ways (suc (suc i)) zero = rw (other_number (suc i))
both_ways (suc (suc i)) (suc zero) = refl
both_ways (suc (suc i)) (suc (suc j)) = refl

abbrev before : Shape
before = a_shape (codes "name") ty.Text

abbrev after : Shape
after = a_shape (codes "size") ty.Bigint

suits : IsWellFormed a_lens before after
suits = record {
  ups = rw (null_has_no_type before);
  downs = refl;
  new_key = refl;
  old_key = refl;
  both_ways = both_ways;
}

is_pair : IsPair (record { old = before; new = after; lens = a_lens; layout = layout before after a_lens })
is_pair = record {
  old = well_formed (codes "name") ty.Text refl;
  new = well_formed (codes "size") ty.Bigint refl;
  fitting = refl;
  lens = suits;
  layout = refl;
}

pub returns : goal.returns
returns c = rw (c.in_ok-layout.ensures, c.in_ok-old.ensures, c.in_ok-new.ensures, c.in_ok-lens.ensures) is_pair
