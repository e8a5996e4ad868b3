-- The bodies of records. The format is our own. A number stands with its highest byte first.
use Rattle.std.specs.Prelude.{◌≡◌, ℕ, ℤ, ◌<◌, ◌≤◌, ◌^◌, Bool, true, false, ◌&&◌, List, [], ◌∷◌, ◌++◌, length, Option, Some, None, IfSome, int_lt}
use Rattle.std.specs.Int.{Width, w16, w32, w64, to_be_bytes, cast_unsigned}
use Rattle.std.specs.Int.RustNames.{FitsSigned}
use Rattle.std.specs.List.{All, flat_map}
use Rattle.sql_base.specs.Text.{IsText}
use Rattle.sql_base.specs.declared.values.Value.{Value}
use Rattle.sql_base.specs.declared.values.Value.TheVariants.{Null, Int, Text, Bool as Truth}
use Rattle.journal_rec.specs.declared.records.Record.{Record}
use Rattle.journal_rec.specs.declared.records.Record.TheVariants.{Start, Rows, Step}
use Rattle.journal_rec.specs.declared.records.RecordedRow.{RecordedRow}

-- ---- what is written

-- these bytes, behind their number
abbrev pub counted_bytes : Width → List ℕ → List ℕ
counted_bytes w bytes = to_be_bytes w (length bytes) ++ bytes

-- what each of these is written as, behind their number
abbrev pub counted : {X : Type 0} → Width → (X → List ℕ) → List X → List ℕ
counted w form xs = to_be_bytes w (length xs) ++ flat_map form xs

-- a number with a sign, in eight bytes
abbrev pub int_bytes : ℤ → List ℕ
int_bytes n = to_be_bytes w64 (cast_unsigned w64 n)

abbrev pub value_bytes : Value → List ℕ
value_bytes Null = 0 ∷ []
value_bytes (Int n) = 1 ∷ int_bytes n
value_bytes (Text bytes) = 2 ∷ counted_bytes w16 bytes
value_bytes (Truth false) = 3 ∷ 0 ∷ []
value_bytes (Truth true) = 3 ∷ 1 ∷ []

-- a stored row
abbrev pub values_bytes : List Value → List ℕ
values_bytes values = counted w16 value_bytes values

-- 0 for a row that was removed; 1, and a row that is stored
abbrev pub rest_bytes : Option (List Value) → List ℕ
rest_bytes None = 0 ∷ []
rest_bytes (Some values) = 1 ∷ values_bytes values

abbrev pub row_bytes : RecordedRow → List ℕ
row_bytes row = int_bytes row.key ++ rest_bytes row.values

-- the body of a record
abbrev pub body_of : Record → List ℕ
body_of (Start text) = 1 ∷ counted_bytes w32 text
body_of (Rows table rows) = 2 ∷ (to_be_bytes w32 table ++ counted w32 row_bytes rows)
body_of (Step kind) = 3 ∷ kind ∷ []

-- ---- what has a body

-- the length of a text fits its two bytes
abbrev pub ValueFits : Value → Type 0
ValueFits Null = Unit {0}
ValueFits (Int n) = Unit {0}
ValueFits (Text bytes) = length bytes < 2 ^ 16
ValueFits (Truth b) = Unit {0}

abbrev pub ValuesFit : List Value → Type 0
ValuesFit values = (length values < 2 ^ 16) × All ValueFits values

abbrev pub RowFits : RecordedRow → Type 0
RowFits row = IfSome row.values ValuesFit

-- each key is below the next
abbrev pub ascend : List RecordedRow → Bool
ascend [] = true
ascend (row ∷ []) = true
ascend (row ∷ next ∷ rows) = int_lt row.key next.key && ascend (next ∷ rows)

pub record RowsFit (rows : List RecordedRow) : Type 0 where
  pub some : 0 < length rows
  pub few : length rows < 2 ^ 32
  pub in_order : ascend rows ≡ true
  pub each : All RowFits rows

-- A text's length fits its bytes; there is a row, and the keys ascend; a step is one of five.
abbrev pub Fits : Record → Type 0
Fits (Start text) = length text < 2 ^ 32
Fits (Rows table rows) = RowsFit rows
Fits (Step kind) = (1 ≤ kind) × (kind ≤ 5)

-- ---- what every record of the program is by its types

abbrev pub IsProperValue : Value → Type 0
IsProperValue Null = Unit {0}
IsProperValue (Int n) = FitsSigned w64 n
IsProperValue (Text bytes) = IsText bytes
IsProperValue (Truth b) = Unit {0}

abbrev pub IsProperRow : RecordedRow → Type 0
IsProperRow row = FitsSigned w64 row.key × IfSome row.values (All IsProperValue)

-- Its numbers are those of their types, and its texts are texts.
abbrev pub IsProper : Record → Type 0
IsProper (Start text) = Unit {0}
IsProper (Rows table rows) = (table < 2 ^ 32) × All IsProperRow rows
IsProper (Step kind) = Unit {0}

-- ---- the format

-- these bytes are the body of this record
pub record IsBody (bytes : List ℕ) (r : Record) : Type 0 where
  pub fits : Fits r
  pub proper : IsProper r
  pub text : bytes ≡ body_of r
