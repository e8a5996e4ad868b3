-- The canonical text of a migration: the compact text of its JSON value, with keys in byte order, members at their
-- default left out, expressions in canonical text, and types by their first name.
use Rattle.std.specs.Prelude.{ℕ, List, [], ◌∷◌, codes, map, fold, Bool, true, false, Option, Some, None, option_map}
use Rattle.std.specs.Str.Lossy.{utf8_lossy}
use Rattle.serde_json.specs.Data.{Data, Items, Members, no_members, member, put}
use Rattle.serde_json.specs.Data as json
use Rattle.serde_json.specs.View.{items_of}
use Rattle.serde_json.specs.Written.{compact_text}
use Rattle.sql_base.specs.declared.exprs.Expr.{Expr}
use Rattle.sql_base.specs.declared.exprs.Expr.TheVariants.{Lit}
use Rattle.sql_base.specs.declared.shapes.Check.{Check}
use Rattle.sql_base.specs.declared.values.Ty.{Ty}
use Rattle.sql_base.specs.declared.values.Value.{Value}
use Rattle.sql_base.specs.declared.values.Value.TheVariants.{Null, Int, Text, Bool as Truth}
use Rattle.sql_text.specs.Printing.{spelled, type_name}
use Rattle.mig_lens.specs.declared.migrations.ColumnDef.{ColumnDef}
use Rattle.mig_lens.specs.declared.migrations.Migration.{Migration}
use Rattle.mig_lens.specs.declared.migrations.Op.{Op}
use Rattle.mig_lens.specs.declared.migrations.Op.TheVariants as op
use Rattle.mig_lens.specs.declared.migrations.Ways.{Ways}
use Rattle.mig_lens.specs.declared.migrations.Ways.TheVariants.{One, Each}
use Rattle.mig_json.specs.declared.members.Operation.{Operation}
use Rattle.mig_json.specs.declared.members.Operation.TheVariants as operation
use Rattle.mig_json.specs.Kind.{Kind, Fields, ValueOf, ValuesOf, name, type, flag, word, expression, literal, object, many, names, each, ways, end, must, may, never}
use Rattle.mig_json.specs.Table.{check, column, alter_column, form}

-- ---- the JSON value that a value of each kind is written as

-- A text. In it bytes that aren't UTF-8 stand as U+FFFD; no name or expression that is read has such bytes.
abbrev pub text_data : List ℕ → Data
text_data bytes = json.string (utf8_lossy bytes)

-- an expression, in its canonical text
abbrev pub expression_data : Expr → Data
expression_data a = text_data (spelled a)

-- a member more, at its key's place in byte order, where there is a value
abbrev pub put_if : List ℕ → Option Data → Members → Members
put_if key None ms = ms
put_if key (Some d) ms = put key d ms

-- the pairs, each a member under its column's name, in byte order of the names
abbrev pub with_pair : Members → List ℕ × Expr → Members
with_pair ms x = put (utf8_lossy x.0) (expression_data x.1) ms

abbrev pub pairs_data : List (List ℕ × Expr) → Data
pairs_data pairs = json.object (fold with_pair no_members pairs)

abbrev pub ways_data : Ways → Data
ways_data (One a) = expression_data a
ways_data (Each pairs) = pairs_data pairs

abbrev pub array_of : {T : Type 0} → (T → Data) → List T → Data
array_of write xs = json.array (items_of (map write xs))

abbrev mutual
  pub data_of : (kind : Kind) → ValueOf kind → Data
  data_of name x = text_data x
  data_of type x = json.string (type_name x)
  data_of flag x = json.boolean x
  data_of (word text) x = json.string text
  data_of (expression place) x = expression_data x
  data_of (literal place) x = expression_data (Lit x)
  data_of (object fields) xs = json.object (members_with fields xs no_members)
  data_of (many kind) xs = array_of (λ x. data_of kind x) xs
  data_of names xs = array_of text_data xs
  data_of (each place) xs = pairs_data xs
  data_of (ways place) x = ways_data x

  -- the members with these values, put to those that are there
  pub members_with : (fields : Fields) → ValuesOf fields → Members → Members
  members_with end xs ms = ms
  members_with (must key kind fields) xs ms = members_with fields xs.1 (put key (data_of kind xs.0) ms)
  members_with (may key kind fields) xs ms =
      members_with fields xs.1 (put_if key (option_map (λ x. data_of kind x) xs.0) ms)
  members_with (never key fields) xs ms = members_with fields xs ms

-- ---- the values of an object's members, of which those at their default are absent

abbrev pub unless_false : Bool → Option Bool
unless_false true = Some true
unless_false false = None

-- the flag as a member more, where it isn't `false`
abbrev pub put_flag : List ℕ → Bool → Members → Members
put_flag key on ms = put_if key (option_map (λ b. json.boolean b) (unless_false on)) ms

abbrev pub unless_null : Value → Option Value
unless_null Null = None
unless_null (Int n) = Some (Int n)
unless_null (Text text) = Some (Text text)
unless_null (Truth b) = Some (Truth b)

abbrev pub unless_empty : {T : Type 0} → List T → Option (List T)
unless_empty [] = None
unless_empty (x ∷ xs) = Some (x ∷ xs)

abbrev pub check_values : Check → ValuesOf check
check_values it = (it.name, (it.expr, tt))

abbrev pub column_values : ColumnDef → ValuesOf column
column_values it = (
  it.name,
  (
    it.ty,
    (
      unless_false it.nullable,
      (
        unless_false it.pk,
        (
          unless_false it.unique,
          (
            unless_null it.default,
            (
              option_map check_values it.check,
              tt,
            ),
          ),
        ),
      ),
    ),
  ),
)

abbrev pub altered_values : List ℕ → List ℕ → Option Ty → Option Bool → Option Value → Option (List ℕ) → Option Check → Option Expr → Option Expr → ValuesOf alter_column.fields
altered_values table altered ty nullable default unique condition up down = (
  table,
  (
    altered,
    (
      ty,
      (
        nullable,
        (
          default,
          (
            option_map (λ u. (u, tt)) unique,
            (
              option_map check_values condition,
              (
                up,
                (
                  down,
                  tt,
                ),
              ),
            ),
          ),
        ),
      ),
    ),
  ),
)

-- ---- operations

-- the name of an operation, of which that of a constraint is two
abbrev pub title : Operation → List ℕ
title operation.CreateTable = codes "create_table"
title operation.DropTable = codes "drop_table"
title operation.RenameTable = codes "rename_table"
title operation.AddColumn = codes "add_column"
title operation.DropColumn = codes "drop_column"
title operation.RenameColumn = codes "rename_column"
title operation.AlterColumn = codes "alter_column"
title operation.CreateUnique = codes "create_constraint"
title operation.CreateCheck = codes "create_constraint"
title operation.DropConstraint = codes "drop_constraint"

-- the operation whose members have these values, under its name
abbrev pub titled : (it : Operation) → ValuesOf (form it).fields → Data
titled it xs = json.object (member (title it) (data_of (object (form it).fields) xs) no_members)

abbrev pub constraint_data : List ℕ → List ℕ → List (List ℕ) → Option Expr → List (List ℕ × Expr) → List (List ℕ × Expr) → Data
constraint_data table named columns None up down =
    titled operation.CreateUnique (table, (named, (tt, (columns, (unless_empty up, (unless_empty down, tt))))))
constraint_data table named columns (Some condition) up down =
    titled operation.CreateCheck (table, (named, (tt, (columns, (condition, (unless_empty up, (unless_empty down, tt)))))))

unfoldable pub operation_data : Op → Data
operation_data (op.CreateTable named columns) =
    titled operation.CreateTable (named, (map column_values columns, tt))
operation_data (op.DropTable named) = titled operation.DropTable (named, tt)
operation_data (op.RenameTable from to) = titled operation.RenameTable (from, (to, tt))
operation_data (op.AddColumn table added up) = titled operation.AddColumn (table, (column_values added, (up, tt)))
operation_data (op.DropColumn table dropped down) = titled operation.DropColumn (table, (dropped, (down, tt)))
operation_data (op.RenameColumn table from to) = titled operation.RenameColumn (table, (from, (to, tt)))
operation_data (op.AlterColumn table altered ty nullable default unique condition up down) =
    titled operation.AlterColumn (altered_values table altered ty nullable default unique condition up down)
operation_data (op.CreateConstraint table named columns condition up down) =
    constraint_data table named columns condition up down
operation_data (op.DropConstraint table named up down) =
    titled operation.DropConstraint (table, (named, (up, (down, tt))))

-- ---- the whole

-- the JSON value of a migration
unfoldable pub json_of : Migration → Data
json_of m =
    json.object
    (put (codes "operations") (array_of operation_data m.operations)
    (put (codes "name") (text_data m.name) no_members))

unfoldable pub canonical_text : Migration → List ℕ
canonical_text m = compact_text (json_of m)
