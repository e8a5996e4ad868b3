-- Values, and what operators do to them. Of an operand that does not have the operator's type the result is NULL: no
-- typed expression has such an operand, so this is our own and seen by nobody.
use Rattle.std.specs.Prelude.{ℕ, zero, suc, ℤ, pos, negsuc, ◌+ℤ◌, ◌-ℤ◌, ◌*ℤ◌, neg_ℤ, int_div, int_rem, ◌^◌, nat_lt, nat_le, Bool, true, false, not, ◌&&◌, ◌||◌, ◌++◌, length, Option, Some, None, Result, Ok, Err, if◌then◌else◌}
use Rattle.std.specs.Ordering.{nat_cmp, int_cmp, bool_cmp}
use Rattle.std.specs.Cmp.Lexicographic.{slice_cmp}
use Rattle.std.specs.declared.cmp.Ordering.{Ordering}
use Rattle.std.specs.declared.cmp.Ordering.TheVariants.{Less, Equal, Greater}
use Rattle.sql_base.specs.declared.values.Value.{Value}
use Rattle.sql_base.specs.declared.values.Value.TheVariants.{Null, Int, Text, Bool as Truth}
use Rattle.sql_base.specs.declared.exprs.BinOp.{BinOp}
use Rattle.sql_base.specs.declared.exprs.BinOp.TheVariants as op
use Rattle.sql_base.specs.declared.faults.EvalFault.{EvalFault}
use Rattle.sql_base.specs.declared.faults.EvalFault.TheVariants as fault

-- a value, or the first fault; that the first one from left to right counts is our own
abbrev pub Outcome : Type 0
Outcome = Result Value EvalFault

abbrev pub is_null : Value → Bool
is_null Null = true
is_null (Int n) = false
is_null (Text t) = false
is_null (Truth b) = false

abbrev pub is_truth : Bool → Value → Bool
is_truth true (Truth b) = b
is_truth false (Truth b) = not b
is_truth wanted Null = false
is_truth wanted (Int n) = false
is_truth wanted (Text t) = false

-- ---- whole numbers: PostgreSQL manual, 9.3 Mathematical Functions and Operators

-- the range of bigint: PostgreSQL manual, 8.1.1 Integer Types
abbrev pub fits_i64 : ℤ → Bool
fits_i64 (pos n) = nat_lt n (2 ^ 63)
fits_i64 (negsuc n) = nat_lt n (2 ^ 63)

-- a result of arithmetic: out of range (22003) rather than wrapped
abbrev pub whole : ℤ → Outcome
whole z = if fits_i64 z then Ok (Int z) else Err fault.Range

-- A quotient, which is rounded toward zero, or a remainder, which has the left operand's sign; a divisor of 0 is a
-- fault (22012). `x % -1` is 0 for every x, as the unbounded remainder is.
abbrev pub divided : (ℤ → ℤ → ℤ) → ℤ → ℤ → Outcome
divided by m (pos zero) = Err fault.DivZero
divided by m (pos (suc n)) = whole (by m (pos (suc n)))
divided by m (negsuc n) = whole (by m (negsuc n))

-- `- a`
abbrev pub negated : Value → Outcome
negated (Int n) = whole (neg_ℤ n)
negated Null = Ok Null
negated (Text t) = Ok Null
negated (Truth b) = Ok Null

-- Over unbounded numbers, and then tested for range.
abbrev pub computed : BinOp → ℤ → ℤ → Outcome
computed op.Add m n = whole (m +ℤ n)
computed op.Sub m n = whole (m -ℤ n)
computed op.Mul m n = whole (m *ℤ n)
computed op.Div m n = divided int_div m n
computed op.Rem m n = divided int_rem m n
computed _ m n = Ok Null

abbrev pub arithmetic : BinOp → Value → Value → Outcome
arithmetic op (Int m) (Int n) = computed op m n
arithmetic op _ _ = Ok Null

-- ---- three-valued logic: PostgreSQL manual, 9.1 Logical Operators

-- NOT
abbrev pub inverted : Value → Value
inverted (Truth b) = Truth (not b)
inverted Null = Null
inverted (Int n) = Null
inverted (Text t) = Null

-- AND and OR: a side that is `ruling` decides, and else NULL does
abbrev pub joined : Bool → Value → Value → Value
joined ruling x y =
    if is_truth ruling x || is_truth ruling y then Truth ruling else (if is_truth (not ruling) x && is_truth (not ruling) y then Truth (not ruling) else Null)

-- ---- comparisons: PostgreSQL manual, 9.2 Comparison Functions and Operators

-- The order of two values of one type: numbers as numbers, false before true, and text by its UTF-8 bytes (our own).
abbrev pub value_cmp : Value → Value → Option Ordering
value_cmp (Int m) (Int n) = Some (int_cmp m n)
value_cmp (Text s) (Text t) = Some (slice_cmp nat_cmp s t)
value_cmp (Truth a) (Truth b) = Some (bool_cmp a b)
value_cmp _ _ = None

-- what the operator says of less, equal and greater; NULL where an operand is NULL
abbrev pub accepts : Bool → Bool → Bool → Option Ordering → Value
accepts less equal greater None = Null
accepts less equal greater (Some Less) = Truth less
accepts less equal greater (Some Equal) = Truth equal
accepts less equal greater (Some Greater) = Truth greater

-- Two values are alike where neither is NULL and they are equal: `x = y` is true.
abbrev pub alike : Value → Value → Bool
alike x y = is_truth true (accepts false true false (value_cmp x y))

-- ---- text: PostgreSQL manual, 9.4 String Functions and Operators

-- in bytes; this limit (54000) is our own
abbrev pub max_text : ℕ
max_text = 4096

abbrev pub concat : Value → Value → Outcome
concat (Text s) (Text t) = if nat_le (length (s ++ t)) max_text then Ok (Text (s ++ t)) else Err fault.TooLong
concat _ _ = Ok Null

-- ---- all of them

-- The left operand decides alone: false for AND, true for OR. That nobody looks at the right one then is our own.
abbrev pub settles : BinOp → Value → Bool
settles op.And x = is_truth false x
settles op.Or x = is_truth true x
settles _ x = false

abbrev pub applied : BinOp → Value → Value → Outcome
applied op.Or x y = Ok (joined true x y)
applied op.And x y = Ok (joined false x y)
applied op.Eq x y = Ok (accepts false true false (value_cmp x y))
applied op.Ne x y = Ok (accepts true false true (value_cmp x y))
applied op.Lt x y = Ok (accepts true false false (value_cmp x y))
applied op.Le x y = Ok (accepts true true false (value_cmp x y))
applied op.Gt x y = Ok (accepts false false true (value_cmp x y))
applied op.Ge x y = Ok (accepts false true true (value_cmp x y))
applied op.Concat x y = concat x y
applied op x y = arithmetic op x y
