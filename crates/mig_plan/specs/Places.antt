-- The expressions of a migration, which are typed after all operations: which is the first that doesn't type.
use Rattle.std.specs.Prelude.{ℕ, Bool, false, not, ◌&&◌, ◌||◌, ◌==◌, max, nat_le, nat_lt, List, [], ◌∷◌, map, is_some, Option, Some, None, if◌then◌else◌}
use Rattle.std.specs.Option.{option_map_or, unwrap_or}
use Rattle.sql_base.specs.declared.exprs.Expr.{Expr}
use Rattle.sql_base.specs.declared.shapes.Column.{Column}
use Rattle.sql_base.specs.declared.shapes.Schema.{Schema}
use Rattle.sql_base.specs.declared.shapes.Shape.{Shape}
use Rattle.sql_base.specs.declared.values.Ty.{Ty}
use Rattle.sql_base.specs.declared.values.Ty.TheVariants as ty
use Rattle.sql_base.specs.Tree.{names_column}
use Rattle.sql_eval.specs.Typing.{same, type_of}
use Rattle.mig_plan.specs.declared.drafts.DraftCheck.{DraftCheck}
use Rattle.mig_plan.specs.declared.drafts.DraftColumn.{DraftColumn}
use Rattle.mig_plan.specs.declared.drafts.DraftTable.{DraftTable}
use Rattle.mig_lens.specs.declared.faults.Member.{Member}
use Rattle.mig_lens.specs.declared.faults.Member.TheVariants as member
use Rattle.mig_lens.specs.declared.faults.Place.{Place}
use Rattle.mig_plan.specs.Finish.{shape_of}
use Rattle.mig_lens.specs.Lens.{types_as}
use Rattle.mig_plan.specs.Versions.{shape_numbered}

-- ---- the order of places

abbrev pub member_order : Member → ℕ
member_order member.Up = 0
member_order member.Down = 1
member_order member.Check = 2
member_order member.Default = 3
member_order member.TypeName = 4

-- Places stand in the order of operations, and in one operation in this order of members.
abbrev pub is_first : Place → Place → Bool
is_first p q = nat_lt p.operation q.operation || (p.operation == q.operation && nat_le (member_order p.member) (member_order q.member))

abbrev pub earlier : Option Place → Option Place → Option Place
earlier None q = q
earlier (Some p) None = Some p
earlier (Some p) (Some q) = if is_first p q then Some p else Some q

-- the first of these places
abbrev pub least : List (Option Place) → Option Place
least [] = None
least (place ∷ places) = earlier place (least places)

-- ---- one expression

-- Its place, where it doesn't have the wanted type over the shape.
abbrev pub bad : Shape → Ty → Expr → Place → Option Place
bad over wanted expr place = if types_as wanted (type_of over expr) then None else Some place

-- `up` or `down` of a column, over the other side's shape: the place, where it hasn't the type of the column that it makes.
abbrev pub bad_way : Option Shape → Member → Option ℕ → Option Column → Option Expr → Option Place
bad_way (Some over) which (Some at) (Some column) (Some expr) = bad over column.ty expr (record { operation = at; member = which })
bad_way _ which at column expr = None

-- Of a column of a draft: `up` is typed over the old shape, and `down` over the new one.
abbrev pub bad_column : Option Shape → Option Shape → DraftColumn → Option Place
bad_column old new column =
    earlier (bad_way old member.Up column.after.subject column.after.column column.after.up)
    (bad_way new member.Down column.after.subject column.before column.after.down)

-- ---- checks

abbrev pub is_retyped : Option Column → Column → Bool
is_retyped before now = option_map_or (λ column. not (same column.ty now.ty)) before false

-- The operation that has the column as its subject, where the check names it; of a check that stood before, where the
-- column's type changed. Operations count from 0, and 0 stands where there is none.
abbrev pub touched : Expr → Bool → Option Column → Column → Option ℕ → ℕ
touched expr made before now subject =
    if names_column now.name expr && (made || is_retyped before now) then unwrap_or subject 0 else 0

abbrev pub touched_at : Expr → Bool → DraftColumn → ℕ
touched_at expr made column =
    option_map_or (λ now. touched expr made column.before now column.after.subject) column.after.column 0

abbrev pub greatest : List ℕ → ℕ
greatest [] = 0
greatest (n ∷ ns) = max n (greatest ns)

-- Where a check is typed: at the operation that made it, or at the last later one whose subject it names; and one that
-- stood before at the last one that changed the type of a column that it names.
abbrev pub check_place : List DraftColumn → DraftCheck → ℕ
check_place columns check =
    max (unwrap_or check.made 0) (greatest (map (touched_at check.check.expr (is_some check.made)) columns))

-- A check of a table of the new version isn't boolean.
abbrev pub bad_check : Option Shape → List DraftColumn → DraftCheck → Option Place
bad_check None columns check = None
bad_check (Some over) columns check =
    bad over ty.Boolean check.check.expr (record { operation = check_place columns check; member = member.Check })

-- ---- all of them

-- the table's shape in the new version, if that has it
abbrev pub shape_now : DraftTable → Option Shape
shape_now table = if is_some table.name then Some (shape_of table) else None

-- Of a table that the new version lacks `up` alone is typed, and of one that the old version lacks checks alone.
abbrev pub bad_in : Option Shape → Option Shape → DraftTable → Option Place
bad_in old new table =
    earlier (least (map (bad_column old new) table.columns)) (least (map (bad_check new table.columns) table.checks))

abbrev pub bad_table : Schema → DraftTable → Option Place
bad_table old table = bad_in (shape_numbered old table.number) (shape_now table) table

abbrev pub first_bad : Schema → List DraftTable → Option Place
first_bad old tables = least (map (bad_table old) tables)
