-- How deep a tree is, and which columns it names. All of it is our own.
use Rattle.std.specs.Prelude.{ℕ, ◌+◌, max, Bool, false, ◌||◌, List, [], ◌∷◌, map}
use Rattle.std.specs.List.{list_any}
use Rattle.std.specs.Str.{bytes_eq}
use Rattle.sql_base.specs.declared.exprs.Expr.{Expr}
use Rattle.sql_base.specs.declared.exprs.Arm.{Arm}
use Rattle.sql_base.specs.declared.exprs.Expr.TheOpen.{Expr-F, Arm-F}
use Rattle.sql_base.specs.declared.exprs.Expr.TheFolds.{fold-Expr, fold-Arm}

-- ---- depth

abbrev pub deepest : List ℕ → ℕ
deepest [] = 0
deepest (d ∷ ds) = max d (deepest ds)

-- A literal and a column have 1, and every other form one more than its deepest part.
abbrev pub depth_step : Expr-F ℕ ℕ → ℕ
depth_step (Expr-F.Lit v) = 1
depth_step (Expr-F.Col name) = 1
depth_step (Expr-F.Not a) = a + 1
depth_step (Expr-F.Neg a) = a + 1
depth_step (Expr-F.IsNull a) = a + 1
depth_step (Expr-F.Bin op a b) = max a b + 1
depth_step (Expr-F.Cast a to) = a + 1
depth_step (Expr-F.Case arms other) = max (deepest arms) other + 1
depth_step (Expr-F.Call f args) = deepest args + 1

-- of an arm: its condition and its branch are parts of the CASE
abbrev pub arm_depth_step : Arm-F ℕ ℕ → ℕ
arm_depth_step a = max a.when a.gives

unfoldable pub depth : Expr → ℕ
depth = fold-Expr ℕ ℕ depth_step arm_depth_step

unfoldable pub depth_of_arm : Arm → ℕ
depth_of_arm = fold-Arm ℕ ℕ depth_step arm_depth_step

abbrev pub deepest_of : List Expr → ℕ
deepest_of args = deepest (map depth args)

abbrev pub deepest_arm : List Arm → ℕ
deepest_arm arms = deepest (map depth_of_arm arms)

-- ---- names

abbrev pub any : List Bool → Bool
any = list_any (λ b. b)

abbrev pub names_step : List ℕ → Expr-F Bool Bool → Bool
names_step name (Expr-F.Lit v) = false
names_step name (Expr-F.Col other) = bytes_eq other name
names_step name (Expr-F.Not a) = a
names_step name (Expr-F.Neg a) = a
names_step name (Expr-F.IsNull a) = a
names_step name (Expr-F.Bin op a b) = a || b
names_step name (Expr-F.Cast a to) = a
names_step name (Expr-F.Case arms other) = any arms || other
names_step name (Expr-F.Call f args) = any args

abbrev pub arm_names_step : Arm-F Bool Bool → Bool
arm_names_step a = a.when || a.gives

-- whether the expression names the column
unfoldable pub names_column : List ℕ → Expr → Bool
names_column name = fold-Expr Bool Bool (names_step name) arm_names_step

unfoldable pub arm_names_column : List ℕ → Arm → Bool
arm_names_column name = fold-Arm Bool Bool (names_step name) arm_names_step

abbrev pub one_names : List ℕ → List Expr → Bool
one_names name args = any (map (names_column name) args)

abbrev pub an_arm_names : List ℕ → List Arm → Bool
an_arm_names name arms = any (map (arm_names_column name) arms)
