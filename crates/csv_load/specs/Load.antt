-- What a text of comma-separated values loads: a statement for each record. The rules are our own.
use Rattle.std.specs.Prelude.{ℕ, List, [], ◌∷◌, map, ◌==◌, Bool, not, ◌&&◌, Option, Some, Result, Ok, Err, codes, is_some, length, nat_le, if◌then◌else◌}
use Rattle.std.specs.List.{filter_map, find, join_with_byte, list_all, position_from, zip}
use Rattle.std.specs.Option.{option_map_or}
use Rattle.std.specs.Str.{byte, bytes_eq, is_utf8}
use Rattle.csv.specs.Reading.{default_config, records, strip_bom}
use Rattle.sql_base.specs.Text.{has_zero}
use Rattle.sql_base.specs.declared.exprs.Expr.{Expr}
use Rattle.sql_base.specs.declared.exprs.Expr.TheVariants.{Lit, Cast}
use Rattle.sql_base.specs.declared.faults.ScriptFault.{ScriptFault}
use Rattle.sql_base.specs.declared.faults.ScriptFault.TheVariants.{Line}
use Rattle.sql_base.specs.declared.shapes.Shape.{Shape}
use Rattle.sql_base.specs.declared.stmts.Stmt.TheVariants.{Insert}
use Rattle.sql_base.specs.declared.values.Ty.{Ty}
use Rattle.sql_base.specs.declared.values.Ty.TheVariants as ty
use Rattle.sql_base.specs.declared.values.Value.TheVariants.{Null, Text}
use Rattle.sql_text.specs.Identifier.{name_in}
use Rattle.csv_load.specs.declared.loading.Loaded.{Loaded}
use Rattle.csv_load.specs.declared.loading.Loaded.TheVariants.{Statement, TooLong}

-- ---- records

-- The records of a text, each the list of its fields. Commas part the fields, and a field may stand between double quotes; a byte order mark at the front belongs to no record, and an empty line is none.
abbrev pub records_of : List ℕ → List (List (List ℕ))
records_of text = records default_config (strip_bom text)

-- UTF-8 without the byte 0
abbrev pub is_text : List ℕ → Bool
is_text field = is_utf8 field && not (has_zero field)

-- The first record is the header. Each of its fields is an identifier, plain or between double quotes.
abbrev pub is_header : List (List ℕ) → Bool
is_header fields = list_all (λ field. is_some (name_in field)) fields

-- Every other record has as many fields as the header, and each is a text.
abbrev pub is_line : ℕ → List (List ℕ) → Bool
is_line width fields = (length fields == width) && list_all is_text fields

-- The number of the first record that isn't as it should be. The header has the number 1, which is the answer also where there is none.
abbrev pub first_bad : List (List (List ℕ)) → Option ℕ
first_bad [] = Some 1
first_bad (header ∷ rows) =
    if is_header header then position_from (λ fields. not (is_line (length header) fields)) 2 rows else Some 1

-- ---- statements

-- The type as which the fields of a column are read: that of the shape's column of this name, and text where there is none.
abbrev pub column_type : Shape → List ℕ → Ty
column_type shape name = option_map_or (λ column. column.ty) (find (λ column. bytes_eq column.name name) shape.columns) ty.Text

abbrev pub type_in : Option Shape → List ℕ → Ty
type_in shape name = option_map_or (λ known. column_type known name) shape ty.Text

-- A text literal is read as a bigint or a boolean by a cast.
abbrev pub read_as : Ty → Expr → Expr
read_as ty.Text literal = literal
read_as to literal = Cast literal to

-- A field `\N` is NULL, also where it stood between double quotes.
abbrev pub value_of : Ty → List ℕ → Expr
value_of to field = if bytes_eq field (codes "\\N") then Lit Null else read_as to (Lit (Text field))

abbrev pub values_of : Option Shape → List (List ℕ) → List (List ℕ) → List Expr
values_of shape names fields = map (λ (name, field). value_of (type_in shape name) field) (zip names fields)

-- A record has at most 4,096 bytes, its fields and a comma between each two of them.
abbrev pub fits : List (List ℕ) → Bool
fits fields = nat_le (length (join_with_byte (byte ",") fields)) 4096

-- a record as a statement that inserts one row
abbrev pub loaded : List ℕ → Option Shape → List (List ℕ) → List (List ℕ) → Loaded
loaded table shape names fields =
    if fits fields then Statement (Insert table names (values_of shape names fields ∷ [])) else TooLong

-- one for each record behind the header
abbrev pub lines_of : List ℕ → Option Shape → List (List (List ℕ)) → List Loaded
lines_of table shape [] = []
lines_of table shape (header ∷ rows) = map (loaded table shape (filter_map name_in header)) rows

-- What records load: the fault of the first bad one; or, where none is, a statement for each behind the header.
abbrev pub load_rows : List ℕ → Option Shape → List (List (List ℕ)) → Result (List Loaded) ScriptFault
load_rows table shape rows =
    option_map_or (λ number. Err (Line number)) (first_bad rows) (Ok (lines_of table shape rows))

-- what a text loads into this table, which has this shape where it is known
abbrev pub load_of : List ℕ → Option Shape → List ℕ → Result (List Loaded) ScriptFault
load_of table shape text = load_rows table shape (records_of text)
