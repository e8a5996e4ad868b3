-- The record of a body as a function of its bytes, read from left to right. By a law it is the one of which they are the body.
use Rattle.std.specs.Prelude.{◌≡◌, ℕ, ℤ, zero, suc, Bool, true, false, not, ◌&&◌, ◌==◌, nat_lt, nat_le, List, [], ◌∷◌, length, take, drop, Option, Some, None, Result, Ok, Err, if◌then◌else◌}
use Rattle.std.specs.Int.{Width, w16, w32, w64, byte_len, from_be_bytes, cast_signed}
use Rattle.std.specs.Str.{is_utf8}
use Rattle.sql_base.specs.Text.{has_zero}
use Rattle.sql_base.specs.declared.values.Value.{Value}
use Rattle.sql_base.specs.declared.values.Value.TheVariants.{Null, Int, Text, Bool as Truth}
use Rattle.journal_rec.specs.declared.faults.RecordFault.{RecordFault}
use Rattle.journal_rec.specs.declared.faults.RecordFault.TheVariants as fault
use Rattle.journal_rec.specs.declared.records.Record.{Record}
use Rattle.journal_rec.specs.declared.records.Record.TheVariants.{Start, Rows, Step}
use Rattle.journal_rec.specs.declared.records.RecordedRow.{RecordedRow}
use Rattle.journal_rec.specs.Body.{ascend}

infixl 10 ◌>>=◌
abbrev pub ◌>>=◌ : {A B : Type 0} → Option A → (A → Option B) → Option B
(Some x) >>= next = next x
None >>= next = None

-- what stands at the front of some bytes, with the bytes behind it; `None` where nothing does
abbrev pub Read : Type 0 → Type 0
Read X = Option (X × List ℕ)

-- `Bad` comes exactly where nothing is read; want of memory is free.
abbrev pub Fails : {Y : Type 0} → RecordFault → Option Y → Type 0
Fails fault.Bad read = read ≡ None
Fails fault.NoMemory read = Unit {0}

-- The answer, seen by view, is what is read.
abbrev pub Reads : {X Y : Type 0} → (X → Y) → Result X RecordFault → Option Y → Type 0
Reads view (Ok x) read = read ≡ Some (view x)
Reads view (Err e) read = Fails e read

-- ---- fields

abbrev pub byte_at : List ℕ → Read ℕ
byte_at [] = None
byte_at (b ∷ rest) = Some (b, rest)

abbrev pub front_at : ℕ → List ℕ → Read (List ℕ)
front_at n bytes = if nat_lt (length bytes) n then None else Some (take n bytes, drop n bytes)

abbrev pub number_at : Width → List ℕ → Read ℕ
number_at w bytes =
    if nat_lt (length bytes) (byte_len w) then None
    else Some (from_be_bytes w (take (byte_len w) bytes), drop (byte_len w) bytes)

unfoldable pub int_at : List ℕ → Read ℤ
int_at bytes = do
  n ← number_at w64 bytes
  Some (cast_signed w64 n.0, n.1)

-- bytes behind their number
unfoldable pub bytes_at : Width → List ℕ → Read (List ℕ)
bytes_at w bytes = do
  n ← number_at w bytes
  front_at n.0 n.1

-- so many, one behind another
unfoldable pub times : {X : Type 0} → (List ℕ → Read X) → ℕ → List ℕ → Read (List X)
times one zero bytes = Some ([], bytes)
times one (suc n) bytes = do
  first ← one bytes
  others ← times one n first.1
  Some (first.0 ∷ others.0, others.1)

-- the same, behind their number
unfoldable pub counted_at : {X : Type 0} → Width → (List ℕ → Read X) → List ℕ → Read (List X)
counted_at w one bytes = do
  n ← number_at w bytes
  times one n.0 n.1

-- ---- values and rows

abbrev pub is_text : List ℕ → Bool
is_text bytes = is_utf8 bytes && not (has_zero bytes)

unfoldable pub text_at : List ℕ → Read Value
text_at bytes = do
  text ← bytes_at w16 bytes
  if is_text text.0 then Some (Text text.0, text.1) else None

unfoldable pub truth_at : List ℕ → Read Value
truth_at bytes = do
  b ← byte_at bytes
  if b.0 == 0 then Some (Truth false, b.1) else (if b.0 == 1 then Some (Truth true, b.1) else None)

abbrev pub int_value_at : List ℕ → Read Value
int_value_at bytes = do
  n ← int_at bytes
  Some (Int n.0, n.1)

-- what stands behind the byte of a value's kind
abbrev pub value_behind : ℕ → List ℕ → Read Value
value_behind kind rest =
    if kind == 0 then Some (Null, rest)
    else (if kind == 1 then int_value_at rest
    else (if kind == 2 then text_at rest
    else (if kind == 3 then truth_at rest else None)))

unfoldable pub value_at : List ℕ → Read Value
value_at bytes = do
  kind ← byte_at bytes
  value_behind kind.0 kind.1

abbrev pub stored_at : List ℕ → Read (Option (List Value))
stored_at bytes = do
  values ← counted_at w16 value_at bytes
  Some (Some values.0, values.1)

-- what stands behind the byte that says whether a row is stored
abbrev pub rest_behind : ℕ → List ℕ → Read (Option (List Value))
rest_behind flag rest =
    if flag == 0 then Some (None, rest)
    else (if flag == 1 then stored_at rest else None)

unfoldable pub rest_at : List ℕ → Read (Option (List Value))
rest_at bytes = do
  flag ← byte_at bytes
  rest_behind flag.0 flag.1

unfoldable pub row_at : List ℕ → Read RecordedRow
row_at bytes = do
  key ← int_at bytes
  values ← rest_at key.1
  Some (record { key = key.0; values = values.0 }, values.1)

-- ---- bodies

-- and no byte more
abbrev pub ended : {X : Type 0} → X × List ℕ → Option X
ended x = if length x.1 == 0 then Some x.0 else None

unfoldable pub start_in : List ℕ → Option Record
start_in bytes = do
  text ← bytes_at w32 bytes
  body ← ended text
  Some (Start body)

unfoldable pub rows_in : List ℕ → Option Record
rows_in bytes = do
  table ← number_at w32 bytes
  read ← counted_at w32 row_at table.1
  rows ← ended read
  if nat_lt 0 (length rows) && ascend rows then Some (Rows table.0 rows) else None

unfoldable pub step_in : List ℕ → Option Record
step_in bytes = do
  read ← byte_at bytes
  kind ← ended read
  if nat_le 1 kind && nat_le kind 5 then Some (Step kind) else None

-- what stands behind the byte of a record's kind
abbrev pub record_behind : ℕ → List ℕ → Option Record
record_behind kind rest =
    if kind == 1 then start_in rest
    else (if kind == 2 then rows_in rest
    else (if kind == 3 then step_in rest else None))

-- the record of which these bytes are the body
unfoldable pub record_in : List ℕ → Option Record
record_in body = do
  kind ← byte_at body
  record_behind kind.0 kind.1
