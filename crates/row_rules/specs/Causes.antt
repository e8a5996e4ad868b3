-- Why rows and statements aren't accepted: codes, names of constraints, and limits.
--
-- The codes are PostgreSQL's (manual, Appendix A); which of them some refusals carry, the names of constraints and the limits are our own.
use Rattle.std.specs.Prelude.{ℕ, ℤ, List, Option, Some, None, codes}
use Rattle.constraint.specs.Names as names
use Rattle.row_rules.specs.Site.{name_of, shape_of}
use Rattle.row_rules.specs.Words.{BadText, C22003, C22012, C22P02, C23502, C23505, C23514, C42601, C42703, C42804, C53200, C54000, Cause, Code, DivZero, EvalFault, NoMemory, Range, RowFault, SqlError, Table, TooLong, TypeFault, key_name}
use Rattle.row_rules.specs.Words.row_fault_of
use Rattle.row_rules.specs.Words.type_fault

-- ---- limits

-- the heaviest half of a row, by the weight of its values
abbrev pub max_weight : ℕ
max_weight = 4096

-- the most rows of one SELECT
abbrev pub max_reply : ℕ
max_reply = 10000

-- the heaviest rows of one statement: both halves of all rows that it leaves written, and their lost weights, together
abbrev pub max_total : ℕ
max_total = 100663296

-- ---- evaluation

-- (Evaluation as it is defined never wants memory, so the last of these isn't met.)
abbrev pub fault_code : EvalFault → Code
fault_code DivZero = C22012
fault_code Range = C22003
fault_code BadText = C22P02
fault_code TooLong = C54000
fault_code NoMemory = C53200

-- The limit that was passed, where it was one.
abbrev pub fault_name : EvalFault → Option (List ℕ)
fault_name DivZero = None
fault_name Range = None
fault_name BadText = None
fault_name TooLong = Some (codes "text")
fault_name NoMemory = None

-- ---- causes in a row

-- A constraint or a limit of this name isn't met by the row of this key.
abbrev pub constraint_cause : Code → List ℕ → ℤ → Cause
constraint_cause code name key = record { code = code; name = Some name; key = key }

-- An expression has no value over the row of this key.
abbrev pub value_cause : ℤ → EvalFault → Cause
value_cause key fault = record { code = fault_code fault; name = fault_name fault; key = key }

-- The name of a column's NOT NULL constraint.
abbrev pub not_null_name : Table → ℕ → List ℕ
not_null_name table at = names.not_null_name (name_of table) (shape_of table) at

-- The name of the constraint of this table that a row doesn't meet, by the row's fault.
abbrev pub broken_name : Table → RowFault → List ℕ
broken_name table fault = names.broken_name (name_of table) (shape_of table) fault

abbrev pub row_code : RowFault → Code
row_code (row_fault_of.Null at) = C23502
row_code (row_fault_of.Check at) = C23514
row_code (row_fault_of.Eval at fault) = fault_code fault

-- A fault of a row of this table, with the constraint's name; so too where a check has no value.
abbrev pub row_cause : Table → ℤ → RowFault → Cause
row_cause table key fault = constraint_cause (row_code fault) (broken_name table fault) key

-- A half of the row is too heavy.
abbrev pub heavy_cause : ℤ → Cause
heavy_cause key = constraint_cause C54000 (codes "row") key

-- Another row of the table has this key. The key's constraint has the table's name.
abbrev pub taken_key : Table → ℤ → Cause
taken_key table key = constraint_cause C23505 (key_name (name_of table)) key

-- ---- errors of a statement

-- A cause that was found in a row.
abbrev pub row_error : Cause → SqlError
row_error cause = record { code = cause.code; name = cause.name; key = Some cause.key }

-- Something of this name is at fault, and no row.
abbrev pub named_error : Code → List ℕ → SqlError
named_error code name = record { code = code; name = Some name; key = None }

-- Nothing is at fault that has a name.
abbrev pub bare_error : Code → SqlError
bare_error code = record { code = code; name = None; key = None }

-- The numbers of values and of columns differ.
abbrev pub syntax : SqlError
syntax = bare_error C42601

-- More rows match than one reply may have.
abbrev pub long_reply : SqlError
long_reply = named_error C54000 (codes "reply")

-- The rows that a statement leaves written are too heavy together.
abbrev pub heavy_statement : SqlError
heavy_statement = named_error C54000 (codes "weight")

-- An expression has no type. (Typing as it is defined never wants memory, so the last of these isn't met.)
abbrev pub untyped : TypeFault → SqlError
untyped (type_fault.NoColumn name) = named_error C42703 name
untyped type_fault.Mismatch = bare_error C42804
untyped type_fault.NoMemory = bare_error C53200

-- An expression has no value, and stands beside no row.
abbrev pub no_value : EvalFault → SqlError
no_value fault = record { code = fault_code fault; name = fault_name fault; key = None }
