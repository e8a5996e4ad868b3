-- An expression whose column has another name.
use Rattle.std.specs.Prelude.{ℕ, List, map, if◌then◌else◌}
use Rattle.std.specs.Str.{bytes_eq}
use Rattle.sql_base.specs.declared.exprs.Arm.{Arm}
use Rattle.sql_base.specs.declared.exprs.Expr.{Expr}
use Rattle.sql_base.specs.declared.exprs.Expr.TheVariants as expr
use Rattle.sql_base.specs.declared.exprs.Expr.TheOpen.{Expr-F, Arm-F}
use Rattle.sql_base.specs.declared.exprs.Expr.TheFolds.{fold-Expr, fold-Arm}

abbrev pub name_renamed : List ℕ → List ℕ → List ℕ → List ℕ
name_renamed from to name = if bytes_eq name from then to else name

abbrev pub renamed_step : List ℕ → List ℕ → Expr-F Expr Arm → Expr
renamed_step from to (Expr-F.Lit v) = expr.Lit v
renamed_step from to (Expr-F.Col name) = expr.Col (name_renamed from to name)
renamed_step from to (Expr-F.Not a) = expr.Not a
renamed_step from to (Expr-F.Neg a) = expr.Neg a
renamed_step from to (Expr-F.IsNull a) = expr.IsNull a
renamed_step from to (Expr-F.Bin op a b) = expr.Bin op a b
renamed_step from to (Expr-F.Cast a ty) = expr.Cast a ty
renamed_step from to (Expr-F.Case arms other) = expr.Case arms other
renamed_step from to (Expr-F.Call f args) = expr.Call f args

abbrev pub renamed_arm_step : Arm-F Expr Arm → Arm
renamed_arm_step a = record { when = a.when; gives = a.gives }

-- The expression with the second name for each column of the first one.
unfoldable pub renamed : List ℕ → List ℕ → Expr → Expr
renamed from to = fold-Expr Expr Arm (renamed_step from to) renamed_arm_step

unfoldable pub renamed_arm : List ℕ → List ℕ → Arm → Arm
renamed_arm from to = fold-Arm Expr Arm (renamed_step from to) renamed_arm_step

abbrev pub all_renamed : List ℕ → List ℕ → List Expr → List Expr
all_renamed from to args = map (renamed from to) args

abbrev pub arms_renamed : List ℕ → List ℕ → List Arm → List Arm
arms_renamed from to arms = map (renamed_arm from to) arms
