-- Which rows a statement can look at, by the form of its WHERE. All of it is our own.
--
-- A WHERE names one key where it is `key = n` or `n = key`, or an AND whose left operand names one. AND looks at its right operand only where the left one isn't false, so over a row of another key nothing but the key is looked at.
use Rattle.std.specs.Prelude.{ℕ, ℤ, ◌==◌, Bool, false, List, [], ◌∷◌, Option, Some, None, if◌then◌else◌}
use Rattle.std.specs.List.{find}
use Rattle.std.specs.Option.{option_map_or, option_and_then}
use Rattle.std.specs.Ordering.{int_eq}
use Rattle.sql_base.specs.declared.exprs.BinOp.{BinOp}
use Rattle.sql_base.specs.declared.exprs.BinOp.TheVariants as op
use Rattle.sql_base.specs.declared.exprs.Expr.TheFolds.{fold-Expr}
use Rattle.sql_base.specs.declared.exprs.Expr.TheOpen.{Expr-F, Arm-F}
use Rattle.sql_eval.specs.Eval.{column_at}
use Rattle.row_rules.specs.declared.reach.Part.{Part}
use Rattle.row_rules.specs.declared.reach.Part.TheVariants.{KeyColumn, Literal, NamesKey, Other}
use Rattle.row_rules.specs.Rows.{rows_at}
use Rattle.row_rules.specs.Words.{Expr, Int, Kept, Shape, Value}

-- ---- the form of a condition

abbrev pub literal_part : Value → Part
literal_part (Int n) = Literal n
literal_part _ = Other

-- Whether the column of this name is the key.
abbrev pub is_key_column : Shape → List ℕ → Bool
is_key_column shape name = option_map_or (λ at. at == shape.key) (column_at shape name) false

abbrev pub column_part : Shape → List ℕ → Part
column_part shape name = if is_key_column shape name then KeyColumn else Other

-- `left = right`
abbrev pub equal_parts : Part → Part → Part
equal_parts KeyColumn (Literal n) = NamesKey n
equal_parts (Literal n) KeyColumn = NamesKey n
equal_parts _ _ = Other

-- An AND, by its left operand.
abbrev pub narrowed : Part → Part
narrowed (NamesKey n) = NamesKey n
narrowed _ = Other

abbrev pub joined_parts : BinOp → Part → Part → Part
joined_parts op.Eq left right = equal_parts left right
joined_parts op.And left right = narrowed left
joined_parts _ left right = Other

abbrev pub part_step : Shape → Expr-F Part (Unit {0}) → Part
part_step shape (Expr-F.Lit value) = literal_part value
part_step shape (Expr-F.Col name) = column_part shape name
part_step shape (Expr-F.Bin op left right) = joined_parts op left right
part_step shape _ = Other

abbrev pub arm_step : Arm-F Part (Unit {0}) → Unit {0}
arm_step arm = tt

-- What an expression is as a part of a WHERE: the key's column, an integer literal, a condition that names a key, or anything else.
unfoldable pub part_of : Shape → Expr → Part
part_of shape = fold-Expr Part (Unit {0}) (part_step shape) arm_step

abbrev pub named_by : Part → Option ℤ
named_by (NamesKey n) = Some n
named_by _ = None

-- The key that a condition names.
abbrev pub key_named : Shape → Expr → Option ℤ
key_named shape condition = named_by (part_of shape condition)

-- The one key that a WHERE leaves to look at, where it names one. Without a WHERE it is all rows.
abbrev pub reach : Shape → Option Expr → Option ℤ
reach shape condition = option_and_then (key_named shape) condition

-- ---- its rows

-- The rows of this key, or all rows.
abbrev pub rows_reached : Option ℤ → List Kept → List Kept
rows_reached None rows = rows
rows_reached (Some key) rows = rows_at (key ∷ []) rows

-- The row of this key, where there is one.
abbrev pub row_of : ℤ → List Kept → Option Kept
row_of key rows = find (λ row. int_eq row.key key) rows

-- One row or none, as rows.
abbrev pub row_alone : Option Kept → List Kept
row_alone None = []
row_alone (Some row) = row ∷ []
